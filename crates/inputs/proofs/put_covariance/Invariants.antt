-- `inputs::put_covariance` meets its contract: each turn stores the next entry (`fill-next`). Assumes nothing.
use mathlib.Core.Path.{◌≡◌}
use Prim.Native.Nat.{◌*◌, ◌≤◌}
use Rattle.receptions.specs.Receptions.{fill_to, floats}
use Rattle.inputs.specs.Inputs.{upper_at}
use Rattle.inputs.proofs.put_covariance.Given as goal

abbrev pub invariant-loop-k : goal.invariant-loop-k
invariant-loop-k l = (l.k ≤ l.n * l.n) × (l.out ≡ fill_to (floats 1024) (upper_at l.clock l.n) l.k)
