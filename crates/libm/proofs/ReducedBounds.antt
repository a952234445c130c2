-- The reduced angle of an x from pi / 4 to 7 lies within ±0.8 and its tail within ±1e-9: which multiple of pi / 2 is taken off says where x lies.
-- Assumes nothing.
use Rattle.std.proofs.Common.{◌≡◌, ℕ, Bool, true, false, cond, not, ◌&&◌, T, eqb, ltb, leb, List, [], ◌∷◌, pos, sym, refl, ap, ◌∙◌, subst, inl, inr, arith, ltb-false, ltb-true}
use lib.Ieee.{Float, binary64, round, add, sub, mul, neg, le, lt, fits, of_bits, of_int, to_unsigned}
use lib.Ieee.Fits.{and_l, and_r}
use Rattle.binary64.specs.Steps.{◌⊕◌, ◌⊖◌, ◌⊗◌, #, decimal, nought, one, two, half, abs}
use Rattle.binary64.proofs.Units.{Is, le-trans-is}
use Rattle.binary64.proofs.Interval.{In, le_total}
use Rattle.binary64.proofs.Runs.{Step, lit, plus, minus, times, range, check, check_sound}
use Rattle.binary64.proofs.Order.{cases, fails, lt→le, nlt→le, weak}
use Rattle.libm.specs.Words.{high, word}
use Rattle.libm.specs.RemPio2.{pio2, pio2t, npio2_hw, lost, split, stage, medium, rem_pio2}
use Rattle.libm.specs.Trig.{limit}
use Rattle.libm.specs.declared.rem_pio2.Reduced.{Reduced}
use Rattle.libm.proofs.Cast.{cast-whole}
use Rattle.libm.proofs.HighWords.{word-is, high-below, high-above}
use Rattle.libm.proofs.StageBounds.{About, r1, r2, r3, w0, four, ReducedIn, split-in, second-in, third-in}

-- past pi / 4, and from 3 pi / 4 on, by high words
abbrev pub edge : Float
edge = word 0x3fe921fc

abbrev past : Float
past = word 0x4002d97c

either-in : (b : Bool) (x y : Reduced) → ReducedIn x → ReducedIn y → ReducedIn (cond b x y)
either-in true x y i j = i
either-in false x y i j = j

r1-r3 : (x : Float) → About r1 x → About r3 x
unfolding round neg le fits
r1-r3 x i = weak (neg r3) r3 (neg r1) r1 x (tt, tt) (tt, tt) tt tt i

r2-r3 : (x : Float) → About r2 x → About r3 x
unfolding round neg le fits
r2-r3 x i = weak (neg r3) r3 (neg r2) r2 x (tt, tt) (tt, tt) tt tt i

-- ---- below 3 pi / 4
first_passes : T (check (neg r1) r1 (lit (pio2 1) ∷ minus 1 0 ∷ []) (range edge past ∷ []))
unfolding round of_bits neg add sub le fits
first_passes = tt

again-passes : T (check (neg r3) r3 (lit (pio2 2) ∷ minus 1 0 ∷ []) (range (neg r1) r1 ∷ []))
unfolding round of_bits neg add sub le fits
again-passes = tt

tail1-passes : T (check (neg w0) w0 (lit (pio2t 1) ∷ []) [])
unfolding round of_bits neg le fits
tail1-passes = tt

tail2-passes : T (check (neg w0) w0 (lit (pio2t 2) ∷ []) [])
unfolding round of_bits neg le fits
tail2-passes = tt

close-in : (x : Float) (b : Bool) → In binary64 edge past x
    → ReducedIn (cond b (split 1 (x ⊖ pio2 1) (pio2t 1)) (split 1 (x ⊖ pio2 1 ⊖ pio2 2) (pio2t 2)))
close-in x b i =
    let z = check_sound (neg r1) r1 (lit (pio2 1) ∷ minus 1 0 ∷ []) (range edge past ∷ []) (x ∷ []) (i, tt) first_passes in
    let y = check_sound (neg r3) r3 (lit (pio2 2) ∷ minus 1 0 ∷ []) (range (neg r1) r1 ∷ []) ((x ⊖ pio2 1) ∷ []) (z, tt) again-passes in
    let t1 = check_sound (neg w0) w0 (lit (pio2t 1) ∷ []) [] [] tt tail1-passes in
    let t2 = check_sound (neg w0) w0 (lit (pio2t 2) ∷ []) [] [] tt tail2-passes in
    either-in b _ _ (split-in 1 (x ⊖ pio2 1) (pio2t 1) (r1-r3 _ z) t1) (split-in 1 (x ⊖ pio2 1 ⊖ pio2 2) (pio2t 2) y t2)

-- ---- from there on: `medium` with the multiple n given
abbrev lessened : ℕ → Float → Reduced
lessened n x =
    let f = of_int binary64 (pos n) in
    let r = x ⊖ f ⊗ pio2 1 in
    let w = f ⊗ pio2t 1 in
    let second = stage r f (pio2 2) (pio2t 2) in
    let third = stage second.r f (pio2 3) (pio2t 3) in
    cond (not (eqb (high x) (npio2_hw n))) (split n r w)
    (cond (leb (lost x (r ⊖ w)) 16) (split n r w)
    (cond (leb (lost x (second.r ⊖ second.w)) 49) (split n second.r second.w)
    (split n third.r third.w)))

abbrev quotient : Float → Float
quotient x = x ⊗ # 0x3FE45F306DC9C883 ⊕ half

medium-is : (x : Float) → lessened (to_unsigned 64 (quotient x)) x ≡ medium x
unfolding medium
medium-is x = refl

w-passes : T (check (neg w0) w0 (lit (pio2t 1) ∷ times 1 0 ∷ []) (range one four ∷ []))
unfolding round of_bits neg mul le fits
w-passes = tt

-- for an x from a to b
abbrev multiple : ℕ → Float → Float → Bool
multiple n a b = check (neg r1) r1 (lit (pio2 1) ∷ lit (of_int binary64 (pos n)) ∷ times 0 1 ∷ minus 3 0 ∷ []) (range a b ∷ []) && check one four
    (lit (of_int binary64 (pos n)) ∷ []) []

lessened-in : (n : ℕ) (x a b : Float) → In binary64 a b x → T (multiple n a b) → ReducedIn (lessened n x)
lessened-in n x a b i c =
    let f = of_int binary64 (pos n) in
    let C = check (neg r1) r1 (lit (pio2 1) ∷ lit f ∷ times 0 1 ∷ minus 3 0 ∷ []) (range a b ∷ []) in
    let D = check one four (lit f ∷ []) [] in
    let r = x ⊖ f ⊗ pio2 1 in
    let w = f ⊗ pio2t 1 in
    let F : In binary64 one four f = check_sound one four (lit f ∷ []) [] [] tt (and_r C D c) in
    let R : About r1 r = check_sound (neg r1) r1 (lit (pio2 1) ∷ lit f ∷ times 0 1 ∷ minus 3 0 ∷ []) (range a b ∷ []) (x ∷ []) (i, tt)
    (and_l C D c) in
    let W : About w0 w = check_sound (neg w0) w0 (lit (pio2t 1) ∷ times 1 0 ∷ []) (range one four ∷ []) (f ∷ []) (F, tt) w-passes in
    let second = stage r f (pio2 2) (pio2t 2) in
    let third = stage second.r f (pio2 3) (pio2t 3) in
    let R2 = second-in r f R F in
    let R3 = third-in second.r f R2.0 F in
    let s1 = split-in n r w (r1-r3 r R) W in
    either-in (not (eqb (high x) (npio2_hw n))) _ _ s1
    (either-in (leb (lost x (r ⊖ w)) 16) _ _ s1
    (either-in (leb (lost x (second.r ⊖ second.w)) 49) _ _ (split-in n second.r second.w (r2-r3 _ R2.0) R2.1)
    (split-in n third.r third.w R3.0 R3.1)))

-- ---- which multiple: bounds on x from the quotient
abbrev q-steps : List Step
q-steps = lit (# 0x3FE45F306DC9C883) ∷ times 1 0 ∷ lit half ∷ plus 1 0 ∷ []

-- past h the quotient is b or more, which is above n
at_most : (h b n x : Float) → Is binary64 h → Is binary64 n → T (check b limit q-steps (range h limit ∷ [])) → le b n ≡ false
    → In binary64 past limit x → lt (quotient x) n ≡ true → T (le x h)
at_most h b n x p q c e i l = elim (le_total binary64 x h i.is p) [
  | inl u ↦ u
  | inr u ↦
      let k = check_sound b limit q-steps (range h limit ∷ []) (x ∷ [])
      (record { lo-is = p; hi-is = i.hi-is; is = i.is; least = u; most = i.most }, tt) c in
      absurd (fails (le b n) e (le-trans-is binary64 b (quotient x) n k.lo-is k.is q k.least (lt→le (quotient x) n l)))
]

-- up to h the quotient is b or less, which is below n
at_least : (h b n x : Float) → Is binary64 h → Is binary64 n → T (check nought b q-steps (range past h ∷ [])) → le n b ≡ false
    → In binary64 past limit x → lt (quotient x) n ≡ false → T (le h x)
at_least h b n x p q c e i l = elim (le_total binary64 h x p i.is) [
  | inl u ↦ u
  | inr u ↦
      let k = check_sound nought b q-steps (range past h ∷ []) (x ∷ [])
      (record { lo-is = i.lo-is; hi-is = p; is = i.is; least = i.least; most = u }, tt) c in
      absurd (fails (le n b) e (le-trans-is binary64 n (quotient x) b q k.is k.hi-is (nlt→le binary64 (quotient x) n k.is q l) k.most))
]

abbrev three : Float
three = # 0x4008000000000000

abbrev five : Float
five = # 0x4014000000000000

-- the quotient lies from 1 below 5
quotient-passes : T (check one (decimal 496 2) q-steps (range past limit ∷ []))
unfolding round of_bits neg add mul le fits
quotient-passes = tt

below-five : (q : Float) → In binary64 one (decimal 496 2) q → lt q five ≡ true
unfolding round of_bits le fits
below-five q i = elim (cases (lt q five)) [
  | inl h ↦ h
  | inr h ↦ absurd (fails (le five (decimal 496 2)) refl
      (le-trans-is binary64 five q (decimal 496 2) (tt, tt) i.is i.hi-is (nlt→le binary64 q five i.is (tt, tt) h) i.most))
]

module _ (x : Float) (i : In binary64 past limit x) where
  Q : In binary64 one (decimal 496 2) (quotient x)
  Q = check_sound one (decimal 496 2) q-steps (range past limit ∷ []) (x ∷ []) (i, tt) quotient-passes

  is : (n : ℕ) → to_unsigned 64 (quotient x) ≡ n → ReducedIn (lessened n x) → ReducedIn (medium x)
  is n e h = subst ReducedIn (ap (λ (k : ℕ). lessened k x) (sym e) ∙ medium-is x) h

  case1 : lt (quotient x) two ≡ true → ReducedIn (medium x)
  unfolding round of_bits neg add sub mul le fits of_int
  case1 h =
      let most = at_most (decimal 235621 5) (decimal 2000001 6) two x (tt, tt) (tt, tt) tt refl i h in
      is 1 (cast-whole (quotient x) 1 0 1 1 1 refl refl tt tt Q.least h)
      (lessened-in 1 x past (decimal 235621 5) (record { lo-is = i.lo-is; hi-is = (tt, tt); is = i.is; least = i.least; most = most }) tt)

  case2 : lt (quotient x) two ≡ false → lt (quotient x) three ≡ true → ReducedIn (medium x)
  unfolding round of_bits neg add sub mul le fits of_int
  case2 g h =
      let most = at_most (decimal 392701 5) (decimal 3000001 6) three x (tt, tt) (tt, tt) tt refl i h in
      is 2 (cast-whole (quotient x) 1 1 3 0 2 refl refl tt tt (nlt→le binary64 (quotient x) two Q.is (tt, tt) g) h)
      (lessened-in 2 x past (decimal 392701 5) (record { lo-is = i.lo-is; hi-is = (tt, tt); is = i.is; least = i.least; most = most }) tt)

  case3 : lt (quotient x) three ≡ false → lt (quotient x) four ≡ true → ReducedIn (medium x)
  unfolding round of_bits neg add sub mul le fits of_int
  case3 g h =
      let least = at_least (decimal 392698 5) (decimal 2999999 6) three x (tt, tt) (tt, tt) tt refl i g in
      let most = at_most (decimal 54978 4) (decimal 4000001 6) four x (tt, tt) (tt, tt) tt refl i h in
      is 3 (cast-whole (quotient x) 3 0 1 2 3 refl refl tt tt (nlt→le binary64 (quotient x) three Q.is (tt, tt) g) h)
      (lessened-in 3 x (decimal 392698 5) (decimal 54978 4)
      (record { lo-is = (tt, tt); hi-is = (tt, tt); is = i.is; least = least; most = most }) tt)

  case4 : lt (quotient x) four ≡ false → ReducedIn (medium x)
  unfolding round of_bits neg add sub mul le fits of_int
  case4 g =
      let least = at_least (decimal 549777 5) (decimal 3999999 6) four x (tt, tt) (tt, tt) tt refl i g in
      is 4 (cast-whole (quotient x) 1 2 5 0 4 refl refl tt tt (nlt→le binary64 (quotient x) four Q.is (tt, tt) g) (below-five (quotient x) Q))
      (lessened-in 4 x (decimal 549777 5) limit (record { lo-is = (tt, tt); hi-is = i.hi-is; is = i.is; least = least; most = i.most }) tt)

  medium-in : ReducedIn (medium x)
  medium-in = elim (cases (lt (quotient x) two)) [
    | inl a ↦ case1 a
    | inr a ↦
        elim (cases (lt (quotient x) three)) [
          | inl b ↦ case2 a b
          | inr b ↦ elim (cases (lt (quotient x) four)) [ inl c ↦ case3 b c | inr c ↦ case4 c ]
        ]
  ]

-- ---- the reduction
choose-in : (b : Bool) (x y : Reduced) → (b ≡ true → ReducedIn x) → (b ≡ false → ReducedIn y) → ReducedIn (cond b x y)
choose-in true x y i j = i refl
choose-in false x y i j = j refl

-- x is its own absolute value
pub rem_pio2-in : (x : Float) → abs x ≡ x → In binary64 edge limit x → ReducedIn (rem_pio2 x)
unfolding rem_pio2
rem_pio2-in x e i =
    let p = i.is in
    let Past = word-is 0x4002d97c (omega arith) in
    choose-in (ltb (high x) 0x4002d97c) _ _
    (λ h. close-in x (not (eqb (high x) 0x3ff921fb))
    (record {
      lo-is = i.lo-is;
      hi-is = Past;
      is = p;
      least = i.least;
      most =
          subst (λ (z : Float). T (le z past)) e (high-below x p 0x4002d97c (omega arith) (ltb-true (high x) 0x4002d97c h));
    }))
    (λ h. medium-in x (record {
      lo-is = Past;
      hi-is = i.hi-is;
      is = p;
      least =
          subst (λ (z : Float). T (le past z)) e (high-above x p 0x4002d97c (omega arith) (ltb-false (high x) 0x4002d97c h));
      most = i.most;
    }))
