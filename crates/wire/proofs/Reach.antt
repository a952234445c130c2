-- What a bound on a number's size says of its bits and of its units, and that the tests of the code give that bound. Assumes nothing.
use mathlib.Core.Path.{◌≡◌, refl, sym, ap, ◌∙◌, subst}
use mathlib.Core.Bool.{Bool, true, false, cond, ◌&&◌, ◌||◌, false≢true}
use mathlib.Core.Logic.{◌⊎◌, inl, inr}
use Prim.Native.Nat.{ℕ, zero, suc, ◌+◌, ◌*◌, ◌/◌, ◌%◌, ◌^◌, ◌≤◌, ◌<◌}
use native.Mathlib.Nat.{le_trans, le_of_eq, le_of_suc-le-suc, lt_of_not-le, not-le_of_lt, mod-lt, mul-one, mul_right_comm, mul-le-mul}
use native.Mathlib.Nat.{mul-le-mul_right, le_of_mul-le-mul_right, div-lt_iff_lt-mul, eq-or-lt_of_le}
use native.Mathlib.Omega.{arith}
use lib.Dec.{leb, ltb, eqb, lit<}
use lib.IntN.{ℤ, pos, nat_abs}
use lib.Pow.{pow_pos, pow_mono}
use lib.Ieee.{Float, nan, inf, fin, binary64, up, down, fits, lt, le, eq, of_fields, to_bits}
use lib.Ieee.Fits.{down_pos}
use lib.Ieee.Exact.{HasValue}
use borrow.Author.Tests.{ltb-true, eqb-true}
use Rattle.binary64.proofs.Decode.{fields, fields-mid}
use Rattle.binary64.proofs.Patterns.{back}
use Rattle.wire.specs.Nearest.{half_up}
use Rattle.wire.specs.Wire.{in_units, within}
use Rattle.wire.specs.Held.{AtMost}
use Rattle.wire.proofs.Distance.{size}
use Rattle.wire.proofs.Meaning.{by_value}

pub widen : (n k : ℕ) (x : Float) → n ≤ k → AtMost n x → AtMost k x
widen n k nan l h = h
widen n k (inf s) l h = h
widen n k (fin s m e) l h = le_trans h (mul-le-mul_right (down e) l)

-- ---- its bits
-- the float with this sign and the lower bits of b
abbrev pub with_sign : ℕ → Bool → Float
with_sign b s = of_fields binary64 s (b % 2 ^ 63 / 2 ^ 52) (b % 2 ^ 63 % 2 ^ 52)

parted : (x : Float) → fits binary64 x ≡ true → with_sign (to_bits binary64 x) (leb (2 ^ 63) (to_bits binary64 x)) ≡ x
parted x good =
    let b = to_bits binary64 x in
    let e : b % 2 ^ 63 % 2 ^ 52 ≡ b % 2 ^ 52 = omega arith in
    ap (of_fields binary64 (leb (2 ^ 63) b) (b % 2 ^ 63 / 2 ^ 52)) e ∙ sym (fields b) ∙ back x good

pub of-bits : (x : Float) (s : Bool) → fits binary64 x ≡ true → leb (2 ^ 63) (to_bits binary64 x) ≡ s → with_sign (to_bits binary64 x) s ≡ x
of-bits x s good e = ap (with_sign (to_bits binary64 x)) (sym e) ∙ parted x good

-- a / c at most n
pub at-most-value : (n : ℕ) (x : Float) (s : Bool) (a c : ℕ) → HasValue x s a c → AtMost n x → a ≤ n * c
at-most-value n nan s a c v h = absurd h
at-most-value n (inf t) s a c v h = absurd h
at-most-value n (fin t m e) s a c v h =
    le_of_mul-le-mul_right (le_trans (le_of_eq (sym v.1)) (le_trans (mul-le-mul_right c h) (le_of_eq (mul_right_comm n (down e) c)))) (down_pos e)

top : (n : ℕ) (s : Bool) (t : ℕ) → AtMost n (of_fields binary64 s 2047 t) → ⊥
unfolding of_fields
top n s t = go (eqb t 0)
  where
    go : (b : Bool) → AtMost n (cond b (inf s) nan) → ⊥
    go true h = h
    go false h = h

field-low : (s : Bool) (x t : ℕ) → x ≤ 2047 → AtMost 25000 (of_fields binary64 s x t) → x < 1038
field-low s zero t l h = lit< tt
field-low s (suc x) t l h = elim (eq-or-lt_of_le l) [
  | inl e ↦ absurd (top 25000 s t (subst (λ (y : ℕ). AtMost 25000 (of_fields binary64 s y t)) e h))
  | inr k ↦
      lt_of_not-le (λ (g : 1038 ≤ suc x).
      let lead : 2 ^ 52 ≤ 2 ^ 52 + t = omega arith in
      let big : 2 ^ 52 * 2 ^ 1037 ≤ (2 ^ 52 + t) * 2 ^ x = mul-le-mul lead (pow_mono (le_of_suc-le-suc g)) in
      let y = of_fields binary64 s (suc x) t in
      let bound : (2 ^ 52 + t) * 2 ^ x ≤ 25000 * 2 ^ 1074 = at-most-value 25000 y s ((2 ^ 52 + t) * 2 ^ x) (2 ^ 1074) (fields-mid s x t k) h in
      not-le_of_lt (lit< {m = 25000 * 2 ^ 1074} {n = 2 ^ 52 * 2 ^ 1037} tt) (le_trans big bound))
]

pub bits-low : (x : Float) → fits binary64 x ≡ true → AtMost 25000 x → to_bits binary64 x % 2 ^ 63 < 1038 * 2 ^ 52
bits-low x good h =
    let b = to_bits binary64 x in
    let r = b % 2 ^ 63 in
    let l : r / 2 ^ 52 ≤ 2047 = omega (arith, mod-lt b (pow_pos 63)) in
    let f : r / 2 ^ 52 < 1038 = field-low (leb (2 ^ 63) b) (r / 2 ^ 52) (r % 2 ^ 52) l (subst (AtMost 25000) (sym (parted x good)) h) in
    omega arith

-- ---- its units
pub half-most : (a c n : ℕ) → 0 < c → a ≤ n * c → half_up a c ≤ n
half-most a c n p h = le_of_suc-le-suc ((div-lt_iff_lt-mul {k = 2 * c} {x = 2 * a + c} {y = suc n} (omega arith)).1 (omega arith))

pub few : (n unit : ℕ) (x : Float) → AtMost n x → nat_abs (in_units unit x) ≤ n * unit
few n unit nan h = absurd h
few n unit (inf s) h = absurd h
few n unit (fin s m e) h =
    let v = by_value unit (fin s m e) s (m * up e) (down e) (down_pos e) (refl, refl) in
    le_trans (le_of_eq (ap nat_abs v ∙ size s (half_up (m * up e * unit) (down e))))
    (half-most (m * up e * unit) (down e) (n * unit) (down_pos e) (le_trans (mul-le-mul_right unit h) (le_of_eq (mul_right_comm n (down e) unit))))

-- ---- the tests
either : (a b : Bool) → (a || b) ≡ true → (a ≡ true) ⊎ (b ≡ true)
either true b h = inl refl
either false b h = inr h

pub left : (a b : Bool) → (a && b) ≡ true → a ≡ true
left true b h = refl
left false b h = absurd (false≢true h)

pub right : (a b : Bool) → (a && b) ≡ true → b ≡ true
right true b h = h
right false b h = absurd (false≢true h)

pub both : {a b : Bool} → a ≡ true → b ≡ true → (a && b) ≡ true
both h g = rw (h, g)

up_to : (a b : ℕ) (t : Bool) → ◌≡◌ {A = Bool} (ltb a b || (eqb a b && t)) true → a ≤ b
up_to a b t h = elim (either (ltb a b) (eqb a b && t) h) [
  | inl l ↦ let k : a < b = ltb-true a b l in omega arith
  | inr l ↦ le_of_eq (eqb-true a b (left (eqb a b) t l))
]

up_from : (a b : ℕ) (t : Bool) → ◌≡◌ {A = Bool} (ltb b a || (eqb a b && t)) true → b ≤ a
up_from a b t h = elim (either (ltb b a) (eqb a b && t) h) [
  | inl l ↦ let k : b < a = ltb-true b a l in omega arith
  | inr l ↦ le_of_eq (sym (eqb-true a b (left (eqb a b) t l)))
]

-- from -a * 2 ^ j to b * 2 ^ k
module _ (a j b k : ℕ) where
  abbrev Tested : Float → Type 0
  Tested x = within (fin true a (pos j)) (fin false b (pos k)) x ≡ true

  pub not-below : (m : ℕ) (e : ℤ) → Tested (fin true m e) → m * up e ≤ a * 2 ^ j * down e
  unfolding le lt eq
  not-below m e h =
      le_trans (le_of_eq (sym (mul-one (m * up e))))
      (up_from (a * 2 ^ j * down e) (m * up e * 1) _ (left (le (fin true a (pos j)) (fin true m e)) (le (fin true m e) (fin false b (pos k))) h))

  pub not-above : (m : ℕ) (e : ℤ) → Tested (fin false m e) → m * up e ≤ b * 2 ^ k * down e
  unfolding le lt eq
  not-above m e h =
      le_trans (le_of_eq (sym (mul-one (m * up e))))
      (up_to (m * up e * 1) (b * 2 ^ k * down e) _ (right (le (fin true a (pos j)) (fin false m e)) (le (fin false m e) (fin false b (pos k))) h))

  pub no_nan : Tested nan → ⊥
  unfolding le lt eq
  no_nan h = false≢true h

  pub no-inf : (s : Bool) → Tested (inf s) → ⊥
  unfolding le lt eq
  no-inf true h = false≢true h
  no-inf false h = false≢true h

  pub tested : (n : ℕ) (x : Float) → a * 2 ^ j ≤ n → b * 2 ^ k ≤ n → Tested x → AtMost n x
  tested n nan l g h = absurd (no_nan h)
  tested n (inf s) l g h = absurd (no-inf s h)
  tested n (fin true m e) l g h = le_trans (not-below m e h) (mul-le-mul_right (down e) l)
  tested n (fin false m e) l g h = le_trans (not-above m e h) (mul-le-mul_right (down e) g)
