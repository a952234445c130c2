-- `binary64::square_root::bits_of` meets its contract: what is at least 0 is a number (`le-number`), and is what its bits stand for (`back`).
-- Assumes nothing.
use native.Mathlib.Omega.{arith}
use Rattle.binary64.proofs.Patterns.{le-number, back}
use Rattle.binary64.proofs.square_root.bits_of.Goals as goal

pub float_to_bits-result : goal.float_to_bits-result
float_to_bits-result c = le-number _ _ c.if-x.true

pub returns-then-x : goal.returns-then-x
returns-then-x c = λ h. back _ c.well_formed.0.1

pub returns : goal.returns
returns c = λ h. absurd (omega arith)
