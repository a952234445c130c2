-- `libm::words::negative` meets its contract: what equals itself is a number, so its bits are defined, and the one not-a-number has the sign clear.
-- Assumes nothing.
use Rattle.std.proofs.Common.{refl}
use lib.Ieee.{to_bits}
use Rattle.binary64.proofs.Patterns.{number, is-nan}
use Rattle.libm.specs.Words.{negative}
use Rattle.libm.proofs.words.negative.Goals as goal

pub returns-then-x : goal.returns-then-x
unfolding negative to_bits
returns-then-x c = rw (is-nan _ c.if-x.true)

pub float_to_bits-result : goal.float_to_bits-result
float_to_bits-result c = number _ c.if-x.false

pub returns : goal.returns
unfolding negative
returns c = refl
