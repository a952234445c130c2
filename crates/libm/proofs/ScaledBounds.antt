-- The cases of e_hypot.c's scaling that leave normal words: as they are, both scaled down and both scaled up, the length is above 0. A high word
-- makes no more than its value, also once both are scaled (`word-shift`). Assumes nothing.
use Rattle.std.proofs.Common.{◌≡◌, ℕ, ◌+◌, ◌-◌, ◌*◌, ◌^◌, ◌<◌, ◌≤◌, T, ltb, leb, [], ◌∷◌, sym, refl, ap, ◌∙◌, le_trans, le_of_eq, mul-le-mul_right, mul_assoc, mul-le-mul_left, arith, ltb→lt, leb→le}
use lib.Ieee.{Float, nan, inf, fin, binary64, low, mul, le, fits, of_bits}
use lib.Ieee.Positive.{positive, above, above_of_le}
use Rattle.binary64.specs.Steps.{◌⊕◌, ◌⊗◌, #, abs}
use Rattle.binary64.proofs.Units.{Is, P, N, le→units}
use Rattle.binary64.proofs.Interval.{In}
use Rattle.binary64.proofs.Runs.{lit, times, range, check, check_sound}
use Rattle.binary64.proofs.Order.{abs_is}
use Rattle.binary64.proofs.Own.{sum-above, product-above, no_minus, more-units}
use Rattle.libm.specs.Words.{high, word}
use Rattle.libm.specs.Hypotenuse.{medium}
use Rattle.libm.proofs.HighWords.{word-is, word-plus, word-shift}
use Rattle.libm.proofs.HighWords.{high-above, high-between, high-finite, at_most}
use Rattle.libm.proofs.MediumBounds.{greatest, far, top, Place, medium-in}
use Rattle.libm.proofs.MediumBounds.{fine-low, fine-mid}

pub abs-plus : (x : Float) → N binary64 (abs x) ≡ 0
unfolding abs
abs-plus nan = refl
abs-plus (inf s) = refl
abs-plus (fin s m e) = refl

-- x * y where x is s, y is no less than c, and s * c no less than w
pub times_above : (w s c y : Float) → Is binary64 w → Is binary64 s → T (positive w) → N binary64 w ≡ 0 → N binary64 s ≡ 0 → N binary64 y ≡ 0
    → T (ltb 0 (P binary64 c))
    → T (leb (P binary64 w * 2 ^ low binary64) (P binary64 s * P binary64 c)) → Is binary64 c → Is binary64 y → T (le c y) → T (above (s ⊗ y))
times_above w s c y p q t W S Y z h r u l =
    let m = more-units c y r u l (ltb→lt 0 (P binary64 c) z) in
    above_of_le w (s ⊗ y) t
    (product-above w s y p q u W S Y
    (le_trans (leb→le (P binary64 w * 2 ^ low binary64) (P binary64 s * P binary64 c) h) (mul-le-mul_left (P binary64 s) m.0)))

-- ---- |x| and its word h, in units
module _ (x : Float) (p : Is binary64 x) where
  over : T (le (word (high x)) (abs x))
  over = high-above x p (high x) (high-finite x p) (le_of_eq refl)

  over-units : P binary64 (word (high x)) ≤ P binary64 (abs x)
  over-units = no_less (P binary64 (word (high x))) (N binary64 (word (high x))) (P binary64 (abs x)) (N binary64 (abs x))
      (word-plus (high x) (high-finite x p)) (abs-plus x)
      (le→units binary64 (word (high x)) (abs x) (word-is (high x) (high-finite x p)) (abs_is x p) over)
    where
      no_less : (p n p' n' : ℕ) → n ≡ 0 → n' ≡ 0 → p + n' ≤ p' + n → p ≤ p'
      no_less p n p' n' z z' h = omega arith

-- twice a word, and twice a value that is no less than it
twice-over : (h : ℕ) (a : Float) → 0x100000 ≤ h → h < 0x7fe00000 → Is binary64 a → N binary64 a ≡ 0 → T (le (word h) a)
    → T (le (word (h + 0x00100000)) (a ⊕ a))
twice-over h a l m p z o =
    let s : P binary64 (word (h + 1 * 2 ^ 20)) ≡ P binary64 (word h) * 2 ^ 1 = word-shift h 1 l (omega arith) in
    let u = le→units binary64 (word h) a (word-is h (omega arith)) p o in
    let n = word-plus h (omega arith) in
    sum-above (word (h + 0x00100000)) a a (word-is (h + 0x00100000) (omega arith)) p p z z
    (double (P binary64 (word (h + 0x00100000))) (P binary64 (word h)) (N binary64 (word h)) (P binary64 a) (N binary64 a) s n z u)
  where
    double : (d w w' a a' : ℕ) → d ≡ w * 2 ^ 1 → w' ≡ 0 → a' ≡ 0 → w + a' ≤ a + w' → d ≤ a + a
    double d w w' a a' e z z' u = omega arith

-- ---- |x| times s
abbrev two600 : Float
two600 = # 0x6570000000000000

abbrev two-600 : Float
two-600 = # 0x1A70000000000000

abbrev pub two1022 : Float
two1022 = # 0x7FD0000000000000

abbrev pub two-1022 : Float
two-1022 = # 0x0010000000000000

pub scaled-over : (x w s : Float) → Is binary64 x → Is binary64 w → Is binary64 s → N binary64 w ≡ 0 → N binary64 s ≡ 0
    → P binary64 w * 2 ^ low binary64 ≤ P binary64 (word (high x)) * P binary64 s → T (le w (abs x ⊗ s))
scaled-over x w s p q r W S h =
    product-above w (abs x) s q (abs_is x p) r W (abs-plus x) S (le_trans h (mul-le-mul_right (P binary64 s) (over-units x p)))

-- the words move along
two600-is : Is binary64 two600 × (N binary64 two600 ≡ 0) × (P binary64 two600 ≡ 2 ^ 600 * 2 ^ low binary64)
unfolding of_bits fits
two600-is = ((tt, tt), refl, refl)

two-600-is : Is binary64 two-600 × (N binary64 two-600 ≡ 0) × (2 ^ low binary64 ≡ 2 ^ 600 * P binary64 two-600)
unfolding of_bits fits
two-600-is = ((tt, tt), refl, refl)

module _ (x : Float) (p : Is binary64 x) where
  down-over : 0x25900000 ≤ high x → T (le (word (high x - 0x25800000)) (abs x ⊗ two-600))
  down-over l =
      let h = high x - 0x25800000 in
      let f = high-finite x p in
      let e : h + 600 * 2 ^ 20 ≡ high x = omega arith in
      let s : P binary64 (word (high x)) ≡ P binary64 (word h) * 2 ^ 600 = ap (λ (z : ℕ). P binary64 (word z)) (sym e)
      ∙ word-shift h 600 (omega arith) (omega arith) in
      scaled-over x (word h) two-600 p (word-is h (omega arith)) two-600-is.0 (word-plus h (omega arith)) two-600-is.1
      (le_of_eq (ap (λ (z : ℕ). P binary64 (word h) * z) two-600-is.2 ∙ sym (mul_assoc (P binary64 (word h)) (2 ^ 600) (P binary64 two-600))
      ∙ ap (λ (z : ℕ). z * P binary64 two-600) (sym s)))

  up-over : 0x100000 ≤ high x → high x < 0x5a700000 → T (le (word (high x + 0x25800000)) (abs x ⊗ two600))
  up-over l m =
      let h = high x in
      let w : ℕ = P binary64 (word (h + 600 * 2 ^ 20)) in
      let s : w ≡ P binary64 (word h) * 2 ^ 600 = word-shift h 600 l (omega arith) in
      scaled-over x (word (h + 0x25800000)) two600 p (word-is (h + 0x25800000) (omega arith)) two600-is.0
      (word-plus (h + 0x25800000) (omega arith)) two600-is.1
      (le_of_eq (ap (λ (z : ℕ). z * 2 ^ low binary64) s ∙ mul_assoc (P binary64 (word h)) (2 ^ 600) (2 ^ low binary64)
      ∙ ap (λ (z : ℕ). P binary64 (word h) * z) (sym two600-is.2)))

-- ---- the cases of `scaled` by their words: as they are, both scaled down, both scaled up
some_in : (c : ℕ) (hi a : Float) → T (ltb 0 (P binary64 (word c))) → In binary64 (word c) hi a → N binary64 a ≡ 0
some_in c hi a t i = no_minus a (more-units (word c) a i.lo-is i.is i.least (ltb→lt 0 (P binary64 (word c)) t)).1

placed : (c : ℕ) (a b : Float) (ha hb : ℕ) → T (ltb 0 (P binary64 (word c))) → 0x100000 ≤ c → In binary64 (word c) top a → In binary64 (word c) top b
    → (c ≤ ha) × (ha ≤ 0x5f300000) → (c ≤ hb) × (hb ≤ 0x5f300000) → T (le (word ha) a) → T (le (word hb) b) → Place c a b ha hb
placed c a b ha hb t n i j k l u v = record {
  a_in = i;
  b-in = j;
  a_word = k;
  b-word = l;
  a-over = u;
  b-over = v;
  a-twice = twice-over ha a (omega arith) (omega arith) i.is (some_in c top a t i) u;
}

module _ (x y : Float) (p : Is binary64 x) (q : Is binary64 y) where
  pub as-they-are : high x ≤ 0x5f300000 → 0x20b00000 ≤ high x → high y ≤ 0x5f300000 → 0x20b00000 ≤ high y
      → T (above (medium (abs x) (abs y) (high x) (high y)))
  unfolding of_bits
  as-they-are hi lo hi' lo' =
      let m = medium-in 0x20b00000 (abs x) (abs y) (high x) (high y) (omega arith) fine-low
      (placed 0x20b00000 (abs x) (abs y) (high x) (high y) tt (omega arith) (high-between x p 0x20b00000 0x5f400000 (omega arith) lo (omega arith))
      (high-between y q 0x20b00000 0x5f400000 (omega arith) lo' (omega arith)) (lo, hi) (lo', hi') (over x p) (over y q)) in
      above_of_le (word 0x20b00000) (medium (abs x) (abs y) (high x) (high y)) tt m.least

great-passes : T (check (word 0x25900000) top (lit two-600 ∷ times 1 0 ∷ []) (range (word 0x5b700000) greatest ∷ []))
unfolding of_bits mul le fits
great-passes = tt

great-in : (x : Float) → Is binary64 x → 0x5b700000 ≤ high x → In binary64 (word 0x25900000) top (abs x ⊗ two-600)
unfolding of_bits fits
great-in x p l =
    let i : In binary64 (word 0x5b700000) greatest (abs x) =
    record { lo-is = (tt, tt); hi-is = (tt, tt); is = abs_is x p; least = high-above x p 0x5b700000 (omega arith) l; most = at_most x p } in
    check_sound (word 0x25900000) top (lit two-600 ∷ times 1 0 ∷ []) (range (word 0x5b700000) greatest ∷ []) (abs x ∷ []) (i, tt) great-passes

pub scaled-down : (x y : Float) → Is binary64 x → Is binary64 y → 0x5b700000 ≤ high x → 0x5b700000 ≤ high y
    → T (above (two600 ⊗ medium (abs x ⊗ two-600) (abs y ⊗ two-600) (high x - 0x25800000) (high y - 0x25800000)))
unfolding of_bits
scaled-down x y p q l m =
    let a = abs x ⊗ two-600 in
    let b = abs y ⊗ two-600 in
    let f = high-finite x p in
    let g = high-finite y q in
    let r = medium-in 0x25900000 a b (high x - 0x25800000) (high y - 0x25800000) (omega arith) fine-mid
    (placed 0x25900000 a b (high x - 0x25800000) (high y - 0x25800000) tt (omega arith) (great-in x p l) (great-in y q m) (omega arith, omega arith)
    (omega arith, omega arith)
    (down-over x p (omega arith)) (down-over y q (omega arith))) in
    times_above (word 0x25900000) two600 (word 0x25900000) _ (word-is 0x25900000 (omega arith)) two600-is.0 tt refl two600-is.1
    (some_in 0x25900000 far _ tt r) tt tt r.lo-is r.is r.least

small-passes : T (check (word 0x25900000) top (lit two600 ∷ times 1 0 ∷ []) (range (word 0x100000) (word 0x24700000) ∷ []))
unfolding of_bits mul le fits
small-passes = tt

small-in : (x : Float) → Is binary64 x → 0x100000 ≤ high x → high x < 0x24700000 → In binary64 (word 0x25900000) top (abs x ⊗ two600)
small-in x p l m =
    check_sound (word 0x25900000) top (lit two600 ∷ times 1 0 ∷ []) (range (word 0x100000) (word 0x24700000) ∷ []) (abs x ∷ [])
    (high-between x p 0x100000 0x24700000 (omega arith) l m, tt) small-passes

pub scaled-up : (x y : Float) → Is binary64 x → Is binary64 y → 0x100000 ≤ high x → high x < 0x24700000 → 0x100000 ≤ high y → high y < 0x24700000
    → T (above (two-600 ⊗ medium (abs x ⊗ two600) (abs y ⊗ two600) (high x + 0x25800000) (high y + 0x25800000)))
unfolding of_bits
scaled-up x y p q l m l' m' =
    let a = abs x ⊗ two600 in
    let b = abs y ⊗ two600 in
    let r = medium-in 0x25900000 a b (high x + 0x25800000) (high y + 0x25800000) (omega arith) fine-mid
    (placed 0x25900000 a b (high x + 0x25800000) (high y + 0x25800000) tt (omega arith) (small-in x p l m) (small-in y q l' m')
    (omega arith, omega arith) (omega arith, omega arith)
    (up-over x p l (omega arith)) (up-over y q l' (omega arith))) in
    times_above (word 0x100000) two-600 (word 0x25900000) _ (word-is 0x100000 (omega arith)) two-600-is.0 tt refl two-600-is.1
    (some_in 0x25900000 far _ tt r) tt tt r.lo-is r.is r.least
