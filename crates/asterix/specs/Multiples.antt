-- Document 02, item 13: "latitude and longitude become the nearest 32-bit multiples of 180/2^25 degree and height the
-- nearest 16-bit multiple of 6.25 ft, which is 1,905 mm; .. halves away from zero". Definitions only.
use Rattle.std.specs.Prelude.{ℕ, ◌-◌, ◌*◌, ◌^◌, Bool, true, false, cond, ◌&&◌, eqb, ℤ, pos, negsuc, ◌*ℤ◌}
use Rattle.wire.specs.declared.Wire.{Wire}
use Rattle.wire.specs.Nearest.{signed, nearest}
use Rattle.wire.specs.Wire.{per_degree, between}
use Rattle.asterix.specs.declared.Multiples.{Multiples}

-- how many multiples 180 degrees have, and how many of the wire's units
abbrev pub half_turn : ℕ
half_turn = 2 ^ 25

abbrev pub half_turn_wire : ℕ
half_turn_wire = 180 * per_degree

-- the millimetres of 6.25 ft
abbrev pub step_mm : ℕ
step_mm = 1905

-- w units of the wire are w * 2 ^ 25 / (180 * 10 ^ 7) multiples
unfoldable pub angle : ℤ → ℤ
unfolding nearest
angle w = nearest (w *ℤ pos half_turn) half_turn_wire

unfoldable pub level : ℤ → ℤ
unfolding nearest
level mm = nearest mm step_mm

-- "A longitude that comes to 2^25, which is 180 degrees, becomes -2^25, since the item's range ends below 180."
unfoldable pub turned : ℤ → ℤ
turned (pos n) = cond (eqb n half_turn) (negsuc (half_turn - 1)) (pos n)
turned (negsuc n) = negsuc n

unfoldable pub of_wire : Wire → Multiples
unfolding angle level turned
of_wire w = record { lat = angle w.lat; lon = turned (angle w.lon); height = level w.height }

-- neither "latitude beyond ±90 or longitude beyond ±180 degrees"
unfoldable pub on_globe : Wire → Bool
on_globe w =
    between (signed true (90 * per_degree)) (signed false (90 * per_degree)) w.lat
    && between (signed true (180 * per_degree)) (signed false (180 * per_degree)) w.lon
