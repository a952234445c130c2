-- `screen::start` meets its contract. The invariant: the numbers of those below i are stored (`Filled`). Assumes nothing.
use mathlib.Core.Path.{◌≡◌}
use lib.ListN.{length}
use Rattle.screen.specs.Held.{pairs_of}
use Rattle.screen.specs.State.{start}
use Rattle.screen.proofs.Numbers.{Filled}
use Rattle.screen.proofs.start.Given as goal

abbrev pub invariant-loop-i : goal.invariant-loop-i
invariant-loop-i l = (length l.counts ≡ 32) × Filled (start l.n (pairs_of l.rows)).counts l.counts l.i
