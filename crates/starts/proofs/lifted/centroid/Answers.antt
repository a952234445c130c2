-- `starts::lifted::centroid` meets its contract: the invariant: the sum is that of the first i sites, each times w. Assumes nothing.
use Rattle.std.proofs.Common.{◌≡◌, refl, add-one, arith, rules}
use Rattle.starts.specs.Lifted.{centroid_to, centroid}
use Rattle.starts.proofs.lifted.centroid.Goals as goal

pub loop-i-init : goal.loop-i-init
unfolding centroid_to
loop-i-init c = (search rules, refl)

pub loop-i-preserved : goal.loop-i-preserved
unfolding centroid_to
loop-i-preserved c = (
  omega arith,
  rw (
    add-one,
    c.add-next.ensures,
    c.scale.ensures,
    c.site.ensures,
    c.loop-i.invariant.1,
  ),
)

pub returns : goal.returns
unfolding centroid
returns c = let e : c.loop-i.i ≡ c.args.k = omega arith in
    rw (← c.size-w.ensures, ← e, c.loop-i.invariant.1)
