-- `inputs::check_rows` meets its contract: each turn adds the next row's check (`first_next`). Assumes nothing.
use mathlib.Core.Path.{◌≡◌}
use Prim.Native.Nat.{◌≤◌}
use Rattle.inputs.specs.Faults.{passed, first_to}
use Rattle.inputs.specs.Inputs.{check_row}
use Rattle.inputs.proofs.check_rows.Given as goal

abbrev pub invariant-loop-i : goal.invariant-loop-i
invariant-loop-i l = (l.i ≤ l.n) × (first_to (check_row l.clock l.n) l.i ≡ passed)
