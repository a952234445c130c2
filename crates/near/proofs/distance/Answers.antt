-- `near::distance` meets its contract. By the definition. Assumes nothing.
use Rattle.near.specs.Near.{distance}
use Rattle.near.proofs.distance.Goals as goal

pub returns : goal.returns
unfolding distance
returns c =
    rw (c.norm.ensures, c.sub.ensures, c.f64_at-x.ensures, c.f64_at-y.ensures, c.f64_at-z.ensures)
