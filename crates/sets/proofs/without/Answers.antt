-- `sets::without` meets its contract: an `and` with all bits but one takes that bit's reception out (`has-without`). Assumes nothing.
use native.Mathlib.Omega.{arith}
use lib.Bits.{and_le_l}
use Rattle.sets.proofs.Masks.{has-without}
use Rattle.sets.proofs.without.Goals as goal

pub returns : goal.returns
returns c = (has-without c.args.mask c.args.i c.requires (omega arith), and_le_l c.args.mask _)
