-- `near::hold` meets its contract. The invariant: the nearest of the fixes before k is held. Assumes nothing.
use Rattle.std.proofs.Common.{◌≡◌, ap, ◌∙◌, arith}
use Rattle.sets.specs.Choice.{choose}
use Rattle.near.specs.Near.{held_of, held_to}
use Rattle.near.proofs.Records.{there}
use Rattle.near.proofs.hold.Goals as goal

pub loop-k-init : goal.loop-k-init
unfolding held_of choose
loop-k-init c = (omega arith, c.none-held.ensures)

pub nearest_to-next-requires : goal.nearest_to-next-requires
nearest_to-next-requires c =
    let loop = c.loop-k in
    (there _ c.args.n loop.k c.requires (omega arith), loop.invariant.1)

pub loop-k-preserved : goal.loop-k-preserved
loop-k-preserved c = (omega arith, c.nearest_to-next.ensures)

pub returns : goal.returns
returns c =
    let loop = c.loop-k in
    let args = c.args in
    let e : loop.k ≡ args.n = omega arith in
    loop.invariant.1 ∙ ap (held_to args.file.now args.point) e
