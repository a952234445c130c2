-- Document 01, "Rounding half away from zero, to an f64; infinities and not-a-numbers pass through", worked out over
-- whole numbers. Definitions only; Meaning.antt says what they come to.
use Rattle.std.specs.Prelude.{◌+◌, ◌*◌, ◌/◌, Float}
use Rattle.std.specs.Float.{nan, inf, fin, binary64}
use Rattle.std.specs.Float.Ieee.{up, down, round}

-- The magnitude is the fraction m * up e / down e. A half is added to it exactly, and the sum is cut to a whole number.
-- That number is one that a binary64 holds, so `round` only writes it.
unfoldable pub half_away : Float → Float
unfolding round
half_away nan = nan
half_away (inf s) = inf s
half_away (fin s m e) = round binary64 s ((2 * (m * up e) + down e) / (2 * down e)) 1
