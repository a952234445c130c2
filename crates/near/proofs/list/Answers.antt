-- `near::list` meets its contract. The invariant: the places before k are listed and counted (`Listing`), so that the count is at most
-- k and there is room for the next. Assumes nothing.
use Rattle.std.proofs.Common.{◌≡◌, sym, ◌∙◌, arith}
use Rattle.near.proofs.Records.{there}
use Rattle.near.proofs.Listing.{begun, added, skipped, room}
use Rattle.near.proofs.list.Goals as goal
use Rattle.near.proofs.list.Goals.{then-near_at, else-near_at}

pub loop-k-init : goal.loop-k-init
loop-k-init c = (omega arith, begun _ _)

pub near_at-requires : goal.near_at-requires
near_at-requires c =
    there _ c.args.n c.loop-k.k c.requires.0 (omega arith)

pub offset_bounds-places-count : goal.offset_bounds-places-count
offset_bounds-places-count c = let loop = c.loop-k in omega (arith, room _ _ _ _ _ loop.invariant.1)

pub bounds-places-count : goal.bounds-places-count
bounds-places-count c = let loop = c.loop-k in omega (arith, room _ _ _ _ _ loop.invariant.1)

pub overflow_add-count : goal.overflow_add-count
overflow_add-count c = let loop = c.loop-k in omega (arith, room _ _ _ _ _ loop.invariant.1)

pub loop-k-preserved : goal.loop-k-preserved
loop-k-preserved c =
    let at = c.loop-k in (
      omega arith,
      elim c.if-near_at.branch [
        | then-near_at w ↦ added _ _ at.k at.count at.places (sym c.near_at.ensures ∙ w.if-near_at.true) w.count-is w.places-is at.invariant.1
        | else-near_at w ↦ skipped _ _ at.k at.count at.places (sym c.near_at.ensures ∙ w.if-near_at.false) w.count-is w.places-is at.invariant.1
      ],
    )

pub shape_of-places : goal.shape_of-places
shape_of-places c = let loop = c.loop-k in (room _ _ _ _ _ loop.invariant.1).1

pub returns : goal.returns
returns c =
    let loop = c.loop-k in
    let e : loop.k ≡ c.args.n = omega arith in
    (rw e at loop.invariant.1.counted, rw e at loop.invariant.1.listed)
