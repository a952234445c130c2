-- `inputs::metres_of` meets its contract: each turn stores the next site's three (`metres-next`). Assumes nothing.
use mathlib.Core.Path.{◌≡◌}
use Prim.Native.Nat.{◌≤◌}
use Rattle.inputs.proofs.Held.{metres_in}
use Rattle.inputs.proofs.metres_of.Given as goal

abbrev pub invariant-loop-i : goal.invariant-loop-i
invariant-loop-i l = (l.i ≤ l.n) × (l.out ≡ metres_in l.mm l.i)
