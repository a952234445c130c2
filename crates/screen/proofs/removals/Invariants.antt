-- `screen::removals` meets its contract. The invariant: the state is that after `turn` steps (`held_to`), and what is written down
-- is of these turns (`Recorded`). Assumes nothing.
use mathlib.Core.Path.{◌≡◌}
use Prim.Native.Nat.{◌-◌, ◌^◌, ◌≤◌, ◌<◌}
use lib.ListN.{length}
use Rattle.screen.specs.Held.{pairs_of, held_by}
use Rattle.screen.specs.State.{held_to}
use Rattle.screen.proofs.Recorded.{Recorded}
use Rattle.screen.proofs.removals.Given as goal

abbrev pub invariant-loop-worst : goal.invariant-loop-worst
invariant-loop-worst l =
    (l.turn ≤ l.n) × (length l.turns ≡ 32) × (length l.clashes ≡ 32) × (length l.state.counts ≡ 32)
    × (held_by l.state ≡ held_to l.n (pairs_of l.rows) l.turn) × (l.state.alive < 2 ^ l.n)
    × Recorded l.n (pairs_of l.rows) l.turn l.turns l.clashes

abbrev pub decreases-loop-worst : goal.decreases-loop-worst
decreases-loop-worst l = l.n - l.turn
