-- `patterns::failing` meets its contract. The invariant: the rows below a are those of the pattern (`Filled`). Assumes nothing.
use mathlib.Core.Path.{◌≡◌}
use lib.ListN.{length}
use Rattle.patterns.proofs.Rows.{Filled}
use Rattle.patterns.proofs.failing.Given as goal

abbrev pub invariant-loop-a : goal.invariant-loop-a
invariant-loop-a l = (length l.rows ≡ 32) × Filled l.n l.pattern l.rows l.a
