-- `patterns::tallied` meets its contract. The invariant: the counts are those of the patterns below p (`Tallied`). Assumes nothing.
use mathlib.Core.Path.{◌≡◌}
use Prim.Native.Nat.{◌^◌}
use lib.ListN.{length}
use Rattle.patterns.specs.Patterns.{pairs}
use Rattle.patterns.proofs.Sum.{left}
use Rattle.patterns.proofs.Tally.{Tallied}
use Rattle.patterns.proofs.tallied.Given as goal

abbrev pub invariant-loop-p : goal.invariant-loop-p
invariant-loop-p l = (length l.counts ≡ 7) × Tallied (left l.n) l.counts l.p × (l.end ≡ 2 ^ pairs l.n)
