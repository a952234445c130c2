-- `sets::count` meets its contract: the number of ones in a mask is the count of its set (`count_ones`). Assumes nothing.
use native.Mathlib.Omega.{arith}
use Rattle.sets.proofs.Masks.{count_ones}
use Rattle.sets.proofs.count.Goals as goal

pub returns : goal.returns
returns c = count_ones 32 c.args.mask (omega arith)
