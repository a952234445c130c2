-- `screen::failing` meets its contract. The invariant: the rows hold the failing pairs of the first i. Assumes nothing.
use mathlib.Core.Path.{◌≡◌}
use lib.ListN.{length}
use Rattle.screen.specs.Pair.{fails}
use Rattle.screen.specs.Held.{pairs_of}
use Rattle.screen.proofs.failing.Given as goal

abbrev pub invariant-loop-i : goal.invariant-loop-i
invariant-loop-i l = (length l.rows ≡ 32) × (pairs_of l.rows ≡ fails l.times l.sites l.i)
