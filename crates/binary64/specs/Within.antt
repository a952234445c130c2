-- What lies from -c to c, as binary64 compares. Definitions only.
use Rattle.std.specs.Prelude.{T, Float}
use Rattle.std.specs.Float.Ieee.{neg, le}

-- -c ≤ x ≤ c, ends included, as IEEE 754 compares: so x is a number
abbrev pub Within : Float → Float → Type 0
Within c x = T (le (neg c) x) × T (le x c)
