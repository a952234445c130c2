-- `inputs::check_receptions` meets its contract: each turn adds the next reception's check out of the arrays (`check-next`), which is that of the
-- reception (`first-held`). Assumes nothing.
use mathlib.Core.Path.{◌≡◌}
use Prim.Native.Nat.{◌≤◌}
use Rattle.inputs.specs.Faults.{passed, first_to}
use Rattle.inputs.proofs.Held.{check_in}
use Rattle.inputs.proofs.check_receptions.Given as goal

abbrev pub invariant-loop-i : goal.invariant-loop-i
invariant-loop-i l = (l.i ≤ l.n) × (first_to (check_in l.f) l.i ≡ passed)
