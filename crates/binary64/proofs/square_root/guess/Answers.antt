-- `binary64::square_root::guess` meets its contract, which promises nothing: no sum wraps, and no bits of a not-a-number are read as a value.
-- Assumes nothing.
use native.Mathlib.Omega.{arith}
use Rattle.binary64.proofs.Patterns.{no_nan}
use Rattle.binary64.proofs.square_root.guess.Goals as goal

pub float_from_bits-z0 : goal.float_from_bits-z0
float_from_bits-z0 c = no_nan _ (omega arith)

pub float_from_bits-big : goal.float_from_bits-big
float_from_bits-big c = no_nan _ (omega arith)
