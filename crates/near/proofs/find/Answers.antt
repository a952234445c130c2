-- `near::find` meets its contract: the place that is held is the choice's (`held_place`). Assumes nothing.
use Rattle.std.proofs.Common.{ap, ◌∙◌}
use Rattle.near.specs.declared.Held.{Held}
use Rattle.near.specs.Near.{distance_at, nearest_to}
use Rattle.near.proofs.Steps.{held_place}
use Rattle.near.proofs.find.Goals as goal

pub returns : goal.returns
returns c =
    let args = c.args in
    let file = args.file.now in
    ap (λ (h : Held). h.place) c.hold-held.ensures
    ∙ held_place (distance_at file args.point) (nearest_to file args.point args.n)
