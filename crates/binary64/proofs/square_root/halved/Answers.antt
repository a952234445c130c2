-- `binary64::square_root::halved` meets its contract. x is what its bits stand for (`back`), and each test of the bits is a case of `root`. Assumes
-- nothing.
use mathlib.Core.Path.{◌≡◌, refl, sym, ap, ◌∙◌, subst}
use Prim.Native.Nat.{ℕ, zero, suc, ◌+◌, ◌*◌, ◌/◌, ◌%◌, ◌^◌, ◌≤◌, ◌<◌}
use native.Mathlib.Nat.{mul-pos, le_of_lt, eq-or-lt_of_le}
use native.Mathlib.Omega.{arith}
use mathlib.Core.Bool.{Bool, true, false, cond}
use mathlib.Core.Logic.{◌⊎◌, inl, inr}
use lib.Dec.{eqb}
use lib.Pow.{pow_pos}
use lib.Ieee.{Float, nan, inf, binary64, of_fields, of_bits, to_bits}
use borrow.Author.Tests.{le-leb}
use Rattle.binary64.specs.Root.{root}
use Rattle.binary64.proofs.Patterns.{no_nan, number, zero_by_zero, is-nan, back, bits-lt}
use Rattle.binary64.proofs.Decode.{fields, clear, fields-low, fields-mid, root-negative}
use Rattle.binary64.proofs.square_root.halved.Goals as goal

-- ---- `root` by the bits b of x
at_zero : (x : Float) (b : ℕ) → of_bits binary64 b ≡ x → b ≡ 0 → x ≡ root x
unfolding of_bits root
at_zero x b e z = rw (← e, z)

at-minus-zero : (x : Float) (b : ℕ) → of_bits binary64 b ≡ x → b ≡ 2 ^ 63 → x ≡ root x
unfolding of_bits root
at-minus-zero x b e z = rw (← e, z)

-- an infinity or a not-a-number, by the digits' field
top-root : (s : Bool) (t : ℕ) → root (of_fields binary64 s 2047 t) ≡ cond s nan (of_fields binary64 s 2047 t)
unfolding root of_fields
top-root s t = go s (eqb t 0)
  where
    go : (s b : Bool) → root (cond b (inf s) nan) ≡ cond s nan (cond b (inf s) nan)
    go true true = refl
    go true false = refl
    go false true = refl
    go false false = refl

at_top : (b : ℕ) → 0x7ff0_0000_0000_0000 ≤ b → b < 2 ^ 63 → root (of_bits binary64 b) ≡ of_bits binary64 b
at_top b lo hi =
    let x : b / 2 ^ 52 ≡ 2047 = omega arith in
    let e : of_bits binary64 b ≡ of_fields binary64 false 2047 (b % 2 ^ 52) = clear b hi ∙ ap (λ (y : ℕ). of_fields binary64 false y (b % 2 ^ 52)) x in
    ap root e ∙ top-root false (b % 2 ^ 52) ∙ sym e

negative-fields : (x t : ℕ) → x ≤ 2047 → 0 < x + t → root (of_fields binary64 true x t) ≡ nan
negative-fields zero t l p = root-negative (of_fields binary64 true 0 t) t (fields-low true t) (omega arith)
negative-fields (suc x) t l p = go (eq-or-lt_of_le l)
  where
    go : (suc x ≡ 2047) ⊎ (suc x < 2047) → root (of_fields binary64 true (suc x) t) ≡ nan
    go (inl e) = ap (λ (y : ℕ). root (of_fields binary64 true y t)) e ∙ top-root true t
    go (inr h) = root-negative (of_fields binary64 true (suc x) t) ((2 ^ 52 + t) * 2 ^ x) (fields-mid true x t h) (mul-pos (omega arith) (pow_pos x))

at-negative : (b : ℕ) → 2 ^ 63 < b → b < 2 ^ 64 → root (of_bits binary64 b) ≡ nan
at-negative b lo hi = rw (fields b, le-leb (2 ^ 63) b (le_of_lt lo)) (negative-fields (b % 2 ^ 63 / 2 ^ 52) (b % 2 ^ 52) (omega arith) (omega arith))

pub returns-then-x : goal.returns-then-x
unfolding root
returns-then-x c = rw (is-nan _ c.if-x.true)

pub float_to_bits-bits : goal.float_to_bits-bits
float_to_bits-bits c = number _ c.if-x.false

pub returns-then-bits-gt-SIGN : goal.returns-then-bits-gt-SIGN
returns-then-bits-gt-SIGN c = let g = c.well_formed.0.1 in zero_by_zero ∙ sym (at-negative _ c.if-bits-gt-SIGN.true (bits-lt _ g)) ∙ ap root (back _ g)

pub returns-then-bits : goal.returns-then-bits
returns-then-bits c = at-minus-zero _ _ (back _ c.well_formed.0.1) c.if-bits.true

pub returns-then-bits-ge-INFINITY : goal.returns-then-bits-ge-INFINITY
returns-then-bits-ge-INFINITY c =
    let l : to_bits binary64 c.args.x < 2 ^ 63 = omega arith in
    subst (λ (v : Float). v ≡ root v) (back _ c.well_formed.0.1) (sym (at_top _ c.if-bits-ge-INFINITY.true l))

pub returns-then-bits-eq0 : goal.returns-then-bits-eq0
returns-then-bits-eq0 c = at_zero _ _ (back _ c.well_formed.0.1) c.if-bits-eq0.true

pub float_from_bits-result : goal.float_from_bits-result
float_from_bits-result c = no_nan _ (le_of_lt c.root_bits.ensures.0)

pub returns : goal.returns
returns c = c.root_bits.ensures.1 ∙ ap root (back _ c.well_formed.0.1)
