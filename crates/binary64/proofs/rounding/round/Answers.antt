-- `binary64::rounding::round` meets its contract: from 2 ^ 52 on a value is whole (`large-half`); below, `whole` has the magnitude, which a cast
-- writes exactly, and the sign comes back by `neg-round`. Assumes nothing.
use mathlib.Core.Path.{◌≡◌, refl, sym, ap, ◌∙◌, subst}
use Prim.Native.Nat.{ℕ, ◌/◌, ◌%◌, ◌^◌, ◌≤◌}
use native.Mathlib.Nat.{mod-lt}
use native.Mathlib.Omega.{arith}
use mathlib.Core.Bool.{Bool, true, false}
use lib.IntN.{pos}
use lib.Dec.{T, leb, le→leb}
use lib.Pow.{pow_pos}
use lib.Ieee.{Float, binary64, fits, neg, round, in_float, of_int, of_fields, to_bits}
use borrow.Author.Tests.{le-leb, lt-leb}
use Rattle.binary64.specs.Rounding.{half_away}
use Rattle.binary64.proofs.Patterns.{number, is-nan, back}
use Rattle.binary64.proofs.Decode.{fields}
use Rattle.binary64.proofs.HalfLaw.{large-half, neg-round}
use Rattle.binary64.proofs.rounding.round.Goals as goal

module _ (x : Float) (good : fits binary64 x ≡ true) where
  abbrev b : ℕ
  b = to_bits binary64 x

  -- with the sign s, and with the rest r of the bits
  abbrev signed : Bool → ℕ → Float
  signed s r = of_fields binary64 s (r / 2 ^ 52) (r % 2 ^ 52)

  parted : signed (leb (2 ^ 63) b) (b % 2 ^ 63) ≡ x
  parted =
      let e : b % 2 ^ 63 % 2 ^ 52 ≡ b % 2 ^ 52 = omega arith in
      ap (of_fields binary64 (leb (2 ^ 63) b) (b % 2 ^ 63 / 2 ^ 52)) e ∙ sym (fields b) ∙ back x good

  -- from 2 ^ 52 on
  whole-already : 0x4330_0000_0000_0000 ≤ b % 2 ^ 63 → x ≡ half_away x
  whole-already lo =
      let r = b % 2 ^ 63 in
      subst (λ (v : Float). v ≡ half_away v) parted
      (sym (large-half (leb (2 ^ 63) b) (r / 2 ^ 52) (r % 2 ^ 52) (omega arith) (omega arith) (mod-lt r (pow_pos 52))
      (subst (λ (v : Float). T (fits binary64 v)) (sym parted) (subst T (sym good) tt))))

  -- below, where q is the magnitude rounded, and s the sign
  rounded : (q : ℕ) → ((s : Bool) → half_away (signed s (b % 2 ^ 63)) ≡ round binary64 s q 1) → (s : Bool) → leb (2 ^ 63) b ≡ s
      → round binary64 s q 1 ≡ half_away x
  rounded q h s e = sym (h s) ∙ ap (λ (t : Bool). half_away (signed t (b % 2 ^ 63))) (sym e) ∙ ap half_away parted

cast : (q : ℕ) → of_int binary64 (pos q) ≡ round binary64 false q 1
unfolding of_int
cast q = refl

in-float : (q : ℕ) → q ≤ 2 ^ 53 → T (in_float binary64 (pos q))
unfolding in_float
in-float q h = le→leb q (2 ^ 53) h

pub returns-then-x : goal.returns-then-x
unfolding half_away
returns-then-x c = rw (is-nan _ c.if-x.true)

pub float_to_bits-bits : goal.float_to_bits-bits
float_to_bits-bits c = number _ c.if-x.false

pub returns-then-rest-ge-WHOLE : goal.returns-then-rest-ge-WHOLE
returns-then-rest-ge-WHOLE c = whole-already _ c.well_formed.0.1 c.if-rest-ge-WHOLE.true

pub int_to_float-q : goal.int_to_float-q
int_to_float-q c = in-float _ c.whole-q.ensures.0

pub returns-then-bits-lt-SIGN : goal.returns-then-bits-lt-SIGN
returns-then-bits-lt-SIGN c =
    cast _ ∙ rounded _ c.well_formed.0.1 _ c.whole-q.ensures.1 false (lt-leb _ _ c.if-bits-lt-SIGN.true)

pub returns : goal.returns
returns c =
    ap neg (cast _) ∙ neg-round _ ∙ rounded _ c.well_formed.0.1 _ c.whole-q.ensures.1 true (le-leb _ _ c.if-bits-lt-SIGN.false)
