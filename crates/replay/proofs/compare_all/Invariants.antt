-- `replay::compare_all` counts input k with k before it, of a million at most. No more differ than were compared, by
-- either call, and there are no more lists than inputs.
use Rattle.std.proofs.Common.{◌≡◌, ◌≤◌}
use Rattle.replay.proofs.compare_all.Given as goal

abbrev pub invariant-loop-k : goal.invariant-loop-k
invariant-loop-k g l = (l.tally.compared ≡ l.k) × (l.tally.differ ≤ l.tally.compared)
    × (l.tally.differ_falsified ≤ l.tally.compared) × (l.lists.compared ≤ l.k) × (l.lists.differ ≤ l.lists.compared)
    × (l.lists.differ_falsified ≤ l.lists.compared)
