-- `why::put_states` meets its contract: after i turns the states of the first i receptions are written (`states-next`). Assumes nothing.
use Prim.Native.Nat.{◌-◌, ◌≤◌}
use mathlib.Core.Path.{◌≡◌}
use lib.ListN.{length}
use Rattle.why.specs.States.{states_to}
use Rattle.why.specs.Held.{state_in}
use Rattle.why.proofs.put_states.Given as goal

abbrev pub invariant-loop-i : goal.invariant-loop-i
invariant-loop-i l = (l.i ≤ l.n) × (length l.out ≡ length l.initial.out) × (l.out ≡ states_to l.initial.out (state_in l.mask l.turns l.clashes l.z) l.i)

abbrev pub decreases-loop-i : goal.decreases-loop-i
decreases-loop-i l = l.n - l.i
