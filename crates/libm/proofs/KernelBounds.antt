-- The kernels lie from -1 to 1, for an x within ±0.8 and a tail y within ±1e-9. A kernel's steps are a run that is computed on intervals: the sine's
-- at once, the cosine's by the high word of |x|, one interval after another (`sweep`). Assumes nothing.
use Rattle.std.proofs.Common.{◌≡◌, ℕ, ◌-◌, ◌<◌, ◌≤◌, Bool, true, false, cond, ◌&&◌, T, eqb, ltb, List, [], ◌∷◌, sym, refl, ap, ◌∙◌, subst, inl, inr, lt_of_le_of_lt, lt_irrefl, arith, ltb→lt, ltb-false, ltb-true}
use lib.Ieee.{Float, binary64, round, add, sub, mul, neg, le, fits, of_bits}
use lib.Ieee.Fits.{and_l, and_r}
use Rattle.binary64.specs.Steps.{◌⊕◌, ◌⊖◌, ◌⊗◌, #, decimal, one, half, abs}
use Rattle.binary64.proofs.Units.{Is, le-trans-is}
use Rattle.binary64.proofs.Interval.{In, neg-in}
use Rattle.binary64.proofs.Runs.{Step, lit, plus, minus, times, Range, range, InR, run, at, check, check_sound}
use Rattle.binary64.proofs.Order.{cases, fails, abs-cases, abs_is, in-abs, neg-neg, weak, choice-in}
use Rattle.libm.specs.Words.{high, word}
use Rattle.libm.specs.Kernels.{k_sin, k_cos, qx}
use Rattle.libm.proofs.HighWords.{word-is, word_in, high-above, high-between}

-- 0.8 and 1e-9, within which the reduced angle and its tail lie
abbrev pub wide : Float
wide = decimal 8 1

abbrev pub bit : Float
bit = decimal 1 9

abbrev pub Unit-in : Float → Type 0
Unit-in x = In binary64 (neg one) one x

abbrev pub Wide-in : Float → Type 0
Wide-in x = In binary64 (neg wide) wide x

abbrev pub Bit-in : Float → Type 0
Bit-in y = In binary64 (neg bit) bit y

abbrev tail : Range
tail = range (neg bit) bit

one_in : Unit-in one
unfolding of_bits neg le fits
one_in = record { lo-is = (tt, tt); hi-is = (tt, tt); is = (tt, tt); least = tt; most = tt }

wide-in : (x : Float) → Wide-in x → Unit-in x
unfolding of_bits round neg le fits
wide-in x i = weak (neg one) one (neg wide) wide x (tt, tt) (tt, tt) tt tt i

-- ---- sine
abbrev S1 : Float
S1 = # 0xBFC5555555555549

abbrev S2 : Float
S2 = # 0x3F8111111110F8A6

abbrev S3 : Float
S3 = # 0xBF2A01A019C161D5

abbrev S4 : Float
S4 = # 0x3EC71DE357B1FE7D

abbrev S5 : Float
S5 = # 0xBE5AE5E68A2B9CEB

abbrev S6 : Float
S6 = # 0x3DE5D93A5ACFD57C

-- over x and y: with no tail, and with one
abbrev bare-steps : List Step
bare-steps =
    times 0 0 ∷ times 0 1 ∷ lit S6 ∷ times 2 0 ∷ lit S5 ∷ plus 0 1 ∷ times 5 0 ∷ lit S4 ∷ plus 0 1 ∷ times 8 0 ∷ lit S3 ∷ plus 0 1 ∷ times 11 0
    ∷ lit S2 ∷ plus 0 1 ∷ times 14 0 ∷ lit S1 ∷ plus 0 1 ∷ times 16 0 ∷ plus 19 0 ∷ []

abbrev sin-steps : List Step
sin-steps =
    times 0 0 ∷ times 0 1 ∷ lit S6 ∷ times 2 0 ∷ lit S5 ∷ plus 0 1 ∷ times 5 0 ∷ lit S4 ∷ plus 0 1 ∷ times 8 0 ∷ lit S3 ∷ plus 0 1 ∷ times 11 0
    ∷ lit S2 ∷ plus 0 1 ∷ lit half ∷ times 0 17 ∷ times 15 2 ∷ minus 1 0 ∷ times 18 0 ∷ minus 0 21 ∷ lit S1 ∷ times 20 0 ∷ minus 2 0 ∷ minus 24 0 ∷ []

bare-passes : T (check (neg one) one bare-steps (range (neg wide) wide ∷ tail ∷ []))
unfolding of_bits round neg add sub mul le fits
bare-passes = tt

sin-passes : T (check (neg one) one sin-steps (range (neg wide) wide ∷ tail ∷ []))
unfolding of_bits round neg add sub mul le fits
sin-passes = tt

pub k_sin-in : (x y : Float) (iy : ℕ) → Wide-in x → Bit-in y → Unit-in (k_sin x y iy)
unfolding k_sin
k_sin-in x y iy i j =
    let run_in : (os : List Step) → T (check (neg one) one os (range (neg wide) wide ∷ tail ∷ []))
    → Unit-in (at (run os (x ∷ y ∷ [])) 0) =
    λ os t. check_sound (neg one) one os (range (neg wide) wide ∷ tail ∷ []) (x ∷ y ∷ []) (i, (j, tt)) t in
    choice-in (neg one) one (ltb (high x) 0x3e400000) x _ (λ _. wide-in x i)
    (λ _. choice-in (neg one) one (eqb iy 0) _ _ (λ _. run_in bare-steps bare-passes) (λ _. run_in sin-steps sin-passes))

-- ---- cosine
abbrev C1 : Float
C1 = # 0x3FA555555555554C

abbrev C2 : Float
C2 = # 0xBF56C16C16C15177

abbrev C3 : Float
C3 = # 0x3EFA01A019CB1590

abbrev C4 : Float
C4 = # 0xBE927E4F809C52AD

abbrev C5 : Float
C5 = # 0x3E21EE9EBDB4B1C4

abbrev C6 : Float
C6 = # 0xBDA8FAE9BE8838D4

-- over qx, x and y: without qx, and with it
abbrev near-steps : List Step
near-steps =
    times 1 1 ∷ lit C6 ∷ times 1 0 ∷ lit C5 ∷ plus 0 1 ∷ times 4 0 ∷ lit C4 ∷ plus 0 1 ∷ times 7 0 ∷ lit C3 ∷ plus 0 1 ∷ times 10 0 ∷ lit C2
    ∷ plus 0 1 ∷ times 13 0 ∷ lit C1 ∷ plus 0 1 ∷ times 16 0 ∷ lit half ∷ times 0 18 ∷ times 19 2 ∷ times 22 23 ∷ minus 1 0 ∷ minus 3 0 ∷ lit one
    ∷ minus 0 1 ∷ []

abbrev far-steps : List Step
far-steps =
    times 1 1 ∷ lit C6 ∷ times 1 0 ∷ lit C5 ∷ plus 0 1 ∷ times 4 0 ∷ lit C4 ∷ plus 0 1 ∷ times 7 0 ∷ lit C3 ∷ plus 0 1 ∷ times 10 0 ∷ lit C2
    ∷ plus 0 1 ∷ times 13 0 ∷ lit C1 ∷ plus 0 1 ∷ times 16 0 ∷ lit half ∷ times 0 18 ∷ times 19 2 ∷ times 22 23 ∷ minus 1 0 ∷ minus 3 23 ∷ minus 0 1
    ∷ lit one ∷ minus 0 26 ∷ minus 0 2 ∷ []

-- x is |x| or its negation
abbrev sides : Bool → Float → Float → Range
sides true a b = range (neg b) (neg a)
sides false a b = range a b

abbrev Sided : Float → Bool → Type 0
Sided x s = (a b : Float) → In binary64 a b (abs x) → InR (sides s a b) x

sided : (x : Float) → Is binary64 x → (s : Bool) × Sided x s
sided x p = elim (abs-cases x p.1) [
  | inl k ↦ (false, λ a b i. subst (In binary64 a b) k.0 i)
  | inr k ↦ (true, λ a b i. subst (In binary64 (neg b) (neg a)) (ap neg k.0 ∙ neg-neg x) (neg-in binary64 a b (abs x) i))
]

-- From the high word h of |x| on, one interval after another, where qx lies in G a b for high words from a below b
abbrev sweep : List Step → (ℕ → ℕ → Range) → Bool → ℕ → List ℕ → Bool
sweep os G s h [] = true
sweep os G s h (k ∷ ks) = ltb k 0x7ff00000 && (check (neg one) one os (G h k ∷ sides s (word h) (word k) ∷ tail ∷ []) && sweep os G s k ks)

abbrev final : ℕ → List ℕ → ℕ
final h [] = h
final h (k ∷ ks) = final k ks

module _ (os : List Step) (G : ℕ → ℕ → Range) (x y q : Float) (s : Bool) (p : Is binary64 x) (j : Bit-in y) (S : Sided x s)
    (Q : (a b : ℕ) → a ≤ high x → high x < b → b < 0x7ff00000 → InR (G a b) q) where
  sweep_sound : (h : ℕ) (ks : List ℕ) → T (sweep os G s h ks) → h ≤ high x → high x < final h ks → Unit-in (at (run os (q ∷ x ∷ y ∷ [])) 0)
  sweep_sound h [] t l m = absurd (lt_irrefl h (lt_of_le_of_lt l m))
  sweep_sound h (k ∷ ks) t l m =
      let c = check (neg one) one os (G h k ∷ sides s (word h) (word k) ∷ tail ∷ []) in
      let K = ltb→lt k 0x7ff00000 (and_l (ltb k 0x7ff00000) (c && sweep os G s k ks) t) in
      let u = and_r (ltb k 0x7ff00000) (c && sweep os G s k ks) t in
      elim (cases (ltb (high x) k)) [
        | inl b ↦
            let B = ltb-true (high x) k b in
            check_sound (neg one) one os (G h k ∷ sides s (word h) (word k) ∷ tail ∷ []) (q ∷ x ∷ y ∷ [])
            (Q h k l B K, (S (word h) (word k) (high-between x p h k K l B), (j, tt))) (and_l c (sweep os G s k ks) u)
        | inr b ↦ sweep_sound k ks (and_r c (sweep os G s k ks) u) (ltb-false (high x) k b) m
      ]

-- qx: 0.28125, or |x| / 4 with the low word cleared
abbrev most : Float
most = # 0x3FD2000000000000

abbrev fixed : ℕ → ℕ → Range
fixed a b = range most most

abbrev quarters : ℕ → ℕ → Range
quarters a b = range (word (a - 0x200000)) (word (b - 0x200000))

most-in : In binary64 most most most
unfolding of_bits le fits
most-in = record { lo-is = (tt, tt); hi-is = (tt, tt); is = (tt, tt); least = tt; most = tt }

quarter-in : (n a b : ℕ) → a ≤ n → n < b → b < 0x7ff00000 → InR (quarters a b) (word (n - 0x200000))
quarter-in n a b l m k = word_in (a - 0x200000) (n - 0x200000) (b - 0x200000) (omega arith) (omega arith) (omega arith)

abbrev low-cuts : List ℕ
low-cuts =
    0x3e500000 ∷ 0x3e600000 ∷ 0x3e700000 ∷ 0x3e800000 ∷ 0x3e900000 ∷ 0x3ea00000 ∷ 0x3eb00000 ∷ 0x3ec00000 ∷ 0x3ed00000 ∷ 0x3ee00000 ∷ 0x3ef00000
    ∷ 0x3f000000 ∷ 0x3f100000 ∷ 0x3f200000 ∷ 0x3f300000 ∷ 0x3f400000 ∷ 0x3f500000 ∷ 0x3f600000 ∷ 0x3f700000 ∷ 0x3f800000 ∷ 0x3f900000 ∷ 0x3fa00000
    ∷ 0x3fb00000 ∷ 0x3fc00000 ∷ 0x3fd33333 ∷ []

abbrev mid-cuts : List ℕ
mid-cuts = 0x3fd3d70a ∷ 0x3fd4cccc ∷ 0x3fd6147a ∷ 0x3fd7ae14 ∷ 0x3fda3d70 ∷ 0x3fdd70a3 ∷ 0x3fe0f5c2 ∷ 0x3fe3851e ∷ 0x3fe66666 ∷ 0x3fe90001 ∷ []

abbrev high-cuts : List ℕ
high-cuts = 0x3fe9999a ∷ []

low-passes : (s : Bool) → T (sweep near-steps fixed s 0x3e400000 low-cuts)
unfolding of_bits round neg add sub mul le fits
low-passes true = tt
low-passes false = tt

mid-passes : (s : Bool) → T (sweep far-steps quarters s 0x3fd33333 mid-cuts)
unfolding of_bits round neg add sub mul le fits
mid-passes true = tt
mid-passes false = tt

high-passes : (s : Bool) → T (sweep far-steps fixed s 0x3fe90001 high-cuts)
unfolding of_bits round neg add sub mul le fits
high-passes true = tt
high-passes false = tt

-- the high word of an x within ±0.8
under : le (word 0x3fe9999a) wide ≡ false
unfolding of_bits round le
under = refl

wide_high : (x : Float) → Wide-in x → high x < 0x3fe9999a
wide_high x i = elim (cases (ltb (high x) 0x3fe9999a)) [
  | inl b ↦ ltb-true (high x) 0x3fe9999a b
  | inr b ↦
      let l = high-above x i.is 0x3fe9999a (omega arith) (ltb-false (high x) 0x3fe9999a b) in
      absurd (fails (le (word 0x3fe9999a) wide) under
      (le-trans-is binary64 (word 0x3fe9999a) (abs x) wide (word-is 0x3fe9999a (omega arith)) (abs_is x i.is) i.hi-is l (in-abs x wide i)))
]

-- the steps, as `k_cos` has them
abbrev rest : Float → Float → Float
rest x y = let z = x ⊗ x in z ⊗ (z ⊗ (C1 ⊕ z ⊗ (C2 ⊕ z ⊗ (C3 ⊕ z ⊗ (C4 ⊕ z ⊗ (C5 ⊕ z ⊗ C6)))))) ⊖ x ⊗ y

abbrev near-value : Float → Float → Float
near-value x y = one ⊖ (half ⊗ (x ⊗ x) ⊖ rest x y)

abbrev far-value : Float → Float → Float → Float
far-value x y q = (one ⊖ q) ⊖ ((half ⊗ (x ⊗ x) ⊖ q) ⊖ rest x y)

k_cos-is : (x y : Float) → cond (ltb (high x) 0x3e400000) one
    (cond (ltb (high x) 0x3fd33333) (near-value x y) (far-value x y (qx (high x)))) ≡ k_cos x y
unfolding k_cos
k_cos-is x y = refl

near-is : (x y q : Float) → at (run near-steps (q ∷ x ∷ y ∷ [])) 0 ≡ near-value x y
near-is x y q = refl

far-is : (x y q : Float) → at (run far-steps (q ∷ x ∷ y ∷ [])) 0 ≡ far-value x y q
far-is x y q = refl

qx-most : (n : ℕ) → ltb 0x3fe90000 n ≡ true → qx n ≡ most
unfolding qx
qx-most n h = ap (λ (b : Bool). cond b most (word (n - 0x200000))) h

qx-quarter : (n : ℕ) → ltb 0x3fe90000 n ≡ false → qx n ≡ word (n - 0x200000)
unfolding qx
qx-quarter n h = ap (λ (b : Bool). cond b most (word (n - 0x200000))) h

pub k_cos-in : (x y : Float) → Wide-in x → Bit-in y → Unit-in (k_cos x y)
k_cos-in x y i j =
    let n = high x in
    let p = i.is in
    let d = sided x p in
    let s = d.0 in
    let S = d.1 in
    subst Unit-in (k_cos-is x y)
    (choice-in (neg one) one (ltb n 0x3e400000) one _ (λ _. one_in)
    (λ t. choice-in (neg one) one (ltb n 0x3fd33333) (near-value x y) (far-value x y (qx n))
    (λ u. subst Unit-in (near-is x y most)
    (sweep_sound near-steps fixed x y most s p j S (λ a b _ _ _. most-in) 0x3e400000 low-cuts (low-passes s) (ltb-false n 0x3e400000 t)
    (ltb-true n 0x3fd33333 u)))
    (λ u. elim (cases (ltb 0x3fe90000 n)) [
      | inl v ↦
          subst Unit-in (far-is x y most ∙ ap (far-value x y) (sym (qx-most n v)))
          (sweep_sound far-steps fixed x y most s p j S (λ a b _ _ _. most-in) 0x3fe90001 high-cuts (high-passes s) (ltb-true 0x3fe90000 n v)
          (wide_high x i))
      | inr v ↦
          let m = ltb-false 0x3fe90000 n v in
          subst Unit-in (far-is x y (word (n - 0x200000)) ∙ ap (far-value x y) (sym (qx-quarter n v)))
          (sweep_sound far-steps quarters x y (word (n - 0x200000)) s p j S (λ a b l k h. quarter-in n a b l k h) 0x3fd33333 mid-cuts (mid-passes s)
          (ltb-false n 0x3fd33333 u) (omega arith))
    ])))
