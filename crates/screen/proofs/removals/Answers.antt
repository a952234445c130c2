-- `screen::removals` meets its contract. The invariant: the state is that after `turn` steps (`held_to`), and what is written down
-- is of these turns (`Recorded`). Assumes nothing.
use mathlib.Core.Path.{◌≡◌, refl, sym, ap, ◌∙◌}
use Prim.Native.Nat.{◌<◌}
use native.Mathlib.Numerals.{add-one}
use native.Mathlib.Omega.{arith}
use lib.ListN.{length, length-set}
use borrow.Author.Rules.{rules}
use Rattle.screen.specs.Held.{pairs_of, held_by}
use Rattle.screen.specs.State.{held_to}
use Rattle.screen.proofs.Rows.{zeros}
use Rattle.screen.proofs.Search.{held-alive, none-goes, leaving}
use Rattle.screen.proofs.Recorded.{recorded-start, recorded-next, recorded-end}
use Rattle.screen.proofs.removals.Goals as goal
use Rattle.screen.proofs.removals.Goals.{In-Some}

pub loop-worst-init : goal.loop-worst-init
unfolding held_to
loop-worst-init c =
    let s = c.args in
    let begun = c.start-state in
    let size : length begun.result.counts ≡ 32 = search rules in
    let unwritten = recorded-start s.n (pairs_of s.rows.now) _ _ (zeros 32) (zeros 32) in
    (omega arith, refl, refl, size, begun.ensures.0, begun.ensures.1, unwritten)

-- the one that goes is one of the n
below : (c : In-Some) → c.in-Some.worst < 32
below c =
    let at = c.loop-worst in
    let fails = pairs_of c.args.rows.now in
    let w = leaving c.args.n fails at.turn (held_by at.state) at.invariant.4 c.in-Some.worst (sym c.in-Some.is ∙ c.most_clashing.ensures) in
    omega (arith, w.below, c.requires)

pub offset_bounds-turns-worst : goal.offset_bounds-turns-worst
offset_bounds-turns-worst c = omega (arith, below (goal.at.offset_bounds-turns-worst c).In-Some)

pub bounds-turns-worst : goal.bounds-turns-worst
bounds-turns-worst c = omega (arith, below (goal.at.bounds-turns-worst c).In-Some)

pub offset_bounds-state-worst : goal.offset_bounds-state-worst
offset_bounds-state-worst c = omega (arith, below (goal.at.offset_bounds-state-worst c).In-Some)

pub bounds-state-worst : goal.bounds-state-worst
bounds-state-worst c = omega (arith, below (goal.at.bounds-state-worst c).In-Some)

pub offset_bounds-clashes-worst : goal.offset_bounds-clashes-worst
offset_bounds-clashes-worst c = omega (arith, below (goal.at.offset_bounds-clashes-worst c).In-Some)

pub bounds-clashes-worst : goal.bounds-clashes-worst
bounds-clashes-worst c = omega (arith, below (goal.at.bounds-clashes-worst c).In-Some)

pub without-requires : goal.without-requires
without-requires c = omega (arith, below (goal.at.without-requires c).In-Some)

pub lessen-requires : goal.lessen-requires
lessen-requires c =
    let at = c.loop-worst in
    let fails = pairs_of c.args.rows.now in
    let w = leaving c.args.n fails at.turn (held_by at.state) at.invariant.4 c.in-Some.worst (sym c.in-Some.is ∙ c.most_clashing.ensures) in
    (c.requires, w.below, at.invariant.3)

pub loop-worst-smaller : goal.loop-worst-smaller
loop-worst-smaller c =
    let at = c.loop-worst in
    let fails = pairs_of c.args.rows.now in
    let w = leaving c.args.n fails at.turn (held_by at.state) at.invariant.4 c.in-Some.worst (sym c.in-Some.is ∙ c.most_clashing.ensures) in
    omega (arith, w.early)

pub loop-worst-preserved : goal.loop-worst-preserved
loop-worst-preserved c =
    let at = c.loop-worst in
    let out = c.without in
    let after = c.lessen in
    let fails = pairs_of c.args.rows.now in
    let w = leaving c.args.n fails at.turn (held_by at.state) at.invariant.4 c.in-Some.worst (sym c.in-Some.is ∙ c.most_clashing.ensures) in
    let write = recorded-next c.args.n fails at.turn c.in-Some.worst _ w.goes-is w.clash in (
      omega (arith, w.early),
      rw length-set at.invariant.1,
      rw length-set at.invariant.2,
      after.ensures.counts_len,
      w.next _ out.ensures.0 after.ensures.counts_after ∙ ap (held_to c.args.n fails) (sym (add-one at.turn)),
      (let l = out.ensures.1 in omega arith),
      write at.turns at.clashes (omega (arith, at.invariant.1)) (omega (arith, at.invariant.2)) at.invariant.6,
    )

pub returns : goal.returns
returns c =
    let at = c.loop-worst in
    let fails = pairs_of c.args.rows.now in
    let held = held_by at.state in
    let none = none-goes c.args.n fails at.turn held at.invariant.4 (sym c.in_default.is ∙ c.most_clashing.ensures) in
    let alive = held-alive c.args.n fails at.turn held at.invariant.4 in
    recorded-end c.args.n fails at.turn none at.state.alive at.turns at.clashes at.invariant.0 alive at.invariant.5 at.invariant.6
