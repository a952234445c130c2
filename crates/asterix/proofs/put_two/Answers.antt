-- `asterix::put_two` meets its contract: two bytes are written, the higher first. Assumes nothing.
use native.Mathlib.Omega.{arith}
use lib.ListN.{length-set}
use Rattle.asterix.proofs.put_two.Goals as goal

pub bounds-s-k-2 : goal.bounds-s-k-2
bounds-s-k-2 c = simp length-set (omega arith)

pub returns : goal.returns
returns c = rw (c.low.ensures, c.low-2.ensures)
