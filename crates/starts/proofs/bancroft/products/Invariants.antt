-- `starts::bancroft::products` meets its contract: the invariant: the products of the first i rows are in. Assumes nothing.
use Rattle.std.proofs.Common.{◌≡◌, ◌-◌, ◌≤◌}
use Rattle.starts.specs.Bancroft.{products_to}
use Rattle.starts.proofs.bancroft.products.Given as goal

abbrev pub invariant-loop-i : goal.invariant-loop-i
invariant-loop-i l = (l.i ≤ l.k) × (l.btb ≡ products_to l.sites l.z l.centroid l.i)

abbrev pub decreases-loop-i : goal.decreases-loop-i
decreases-loop-i l = l.k - l.i
