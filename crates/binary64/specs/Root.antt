-- Document 01, "Square root by IEEE 754: the binary64 nearest the exact root, ties to even, -0 gives -0, negatives give
-- not-a-number", worked out over whole numbers. Definitions only; Meaning.antt says what they come to.
use Prim.Native.Nat.{ℕ, zero, suc, ◌+◌, ◌-◌, ◌*◌, ◌/◌, ◌^◌, compare}
use Rattle.std.specs.Prelude.{false, cond, leb, eqb, Float}
use Rattle.std.specs.Float.{nan, inf, fin, binary64}
use Rattle.std.specs.Float.Ieee.{prec, low, up, down, size, nearest, units}

-- the floored root of an n of at most d binary digits, digit by digit: twice the floored root of n / 4, or one more
unfoldable pub digits : ℕ → ℕ → ℕ
digits zero n = 0
digits (suc d) n = let r = 2 * digits d (n / 4) in cond (leb ((r + 1) * (r + 1)) n) (r + 1) r

-- the greatest r with r * r ≤ n (`floored` in proofs/Floor.antt)
unfoldable pub floor_root : ℕ → ℕ
unfolding digits size
floor_root n = digits (size n) n

-- The binary64 nearest to √n of the format's smallest values, a tie to the even one: `round` of lib.Ieee, with √n for
-- its fraction. √n has half as many binary digits before its point as n has, rounded up. The format keeps `prec` of
-- them and drops k, so q is the whole part of √n / 2 ^ k. Whether q or q + 1 is nearer is whether √n / 2 ^ k is below
-- or above q + 1 / 2. Both are doubled and squared, so that no root is left.
unfoldable pub root_units : ℕ → Float
unfolding floor_root size units
root_units n =
    let k = (size n + 1) / 2 - prec binary64 in
    let u = 2 ^ k * 2 ^ k in
    let q = floor_root (n / u) in
    units binary64 false (nearest q (compare (4 * n) ((2 * q + 1) * (2 * q + 1) * u))) k

-- x is a whole number of the format's smallest values, which are 2 ^ -low. So n = x * 2 ^ (2 * low) is a whole number
-- too, and √x is √n of those values.
unfoldable pub root : Float → Float
unfolding root_units
root nan = nan
root (inf s) = cond s nan (inf false)
root (fin s m e) = cond (eqb m 0) (fin s m e) (cond s nan (root_units (m * up e * 2 ^ (2 * low binary64) / down e)))
