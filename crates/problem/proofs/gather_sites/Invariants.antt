-- `problem::gather_sites` meets its contract. The invariant: the first a sites stand in their places. Each index is below 32 by what is asked.
-- Assumes nothing.
use mathlib.Core.Path.{◌≡◌}
use Prim.Native.Nat.{◌≤◌, ◌-◌}
use Rattle.problem.specs.Gathered.{sites_to}
use Rattle.problem.proofs.gather_sites.Given as goal

abbrev pub invariant-loop-a : goal.invariant-loop-a
invariant-loop-a l = (l.a ≤ l.k) × (l.out ≡ sites_to l.sites l.index l.initial.out l.a)

abbrev pub decreases-loop-a : goal.decreases-loop-a
decreases-loop-a l = l.k - l.a
