-- `damped::tried` meets its contract. Where the receptions alone cost more than the state, so do all rows (`above`); elsewhere the cost is the
-- definition's (`cost-joined`), and so are the equations. The place is the candidate's where it is taken, and the state's where not (`moves`,
-- `stays`). The arrays keep their room (`height-room`). Assumes nothing.
use native.Mathlib.Omega.{arith}
use Rattle.whitening.specs.Held.{chosen}
use Rattle.whitening.proofs.Joined.{residuals-joined, cost-joined, completes}
use Rattle.whitening.proofs.Over.{height-room}
use Rattle.damped.proofs.Limit.{above, at_once, taken, left}
use Rattle.damped.proofs.Carried.{stays, moves}
use Rattle.damped.proofs.tried.Goals as goal

pub residuals-part-requires : goal.residuals-part-requires
residuals-part-requires c = (c.requires.k_bound.0, c.requires.scratch.0.0, c.requires.scratch.0.1, c.requires.scratch.0.2)

pub returns-then-cost-part : goal.returns-then-cost-part
returns-then-cost-part c =
    let at = c.args in
    let P = chosen at.k at.sites.now at.z.now at.l.now at.altitude in
    let first = c.residuals-part.ensures in record {
      stepped_value = at_once P at.state at.x at.candidate _
          (above P at.candidate at.r.now _ _ _ c.requires.k_bound.0 c.requires.scratch.0.0 first.r_len.1 first.value c.if-cost-part.true)
          c.rejected-stepped.ensures;
      place_value = stays at.altitude at.place _ at.state c.requires.k_bound.1 c.rejected-stepped.ensures;
      scratch_2 = ((first.r_len.0, first.squared_len, first.ranges_len.0), c.requires.scratch.1);
    }

pub push_height-requires : goal.push_height-requires
push_height-requires c =
    (c.requires.k_bound.0, omega arith, c.residuals-part.ensures.value)

pub completed-next-requires : goal.completed-next-requires
completed-next-requires c =
    record {
      k_bound = (c.requires.k_bound.0, c.residuals-part.ensures.ranges_len.1, c.place-there.ensures);
      slopes = c.requires.scratch.1;
    }

pub returns-then-better : goal.returns-then-better
returns-then-better c =
    let at = c.args in
    let P = chosen at.k at.sites.now at.z.now at.l.now at.altitude in
    let first = c.residuals-part.ensures in
    let place = c.place-there.ensures in
    let pushed = c.push_height.ensures in
    let last = c.completed-next.ensures in
    let r = at.r.now in
    let cost = cost-joined P at.candidate _ place r first.r_len.1 pushed.r_after c.requires.k_bound.0 c.requires.scratch.0.0 _ pushed.value in
    let next = completes P at.candidate _ _ (last.value at.z.now)
    (residuals-joined P at.candidate _ place r first.r_len.1 pushed.r_after c.requires.k_bound.0 c.requires.scratch.0.0) in record {
      stepped_value = taken P at.state at.x at.candidate _ _ _ cost c.better.ensures c.if-better.true _ next c.accepted-stepped.ensures;
      place_value = moves at.altitude _ _ at.state.lambda at.x at.candidate _ place c.accepted-stepped.ensures;
      scratch_2 = ((height-room at.altitude _ at.k _ _ first.r_len.0 pushed.r_after, first.squared_len, first.ranges_len.0), last.slopes_2);
    }

pub returns : goal.returns
returns c =
    let at = c.args in
    let P = chosen at.k at.sites.now at.z.now at.l.now at.altitude in
    let first = c.residuals-part.ensures in
    let place = c.place-there.ensures in
    let pushed = c.push_height.ensures in
    let cost = cost-joined P at.candidate _ place at.r.now first.r_len.1 pushed.r_after c.requires.k_bound.0 c.requires.scratch.0.0 _ pushed.value in record {
      stepped_value = left P at.state at.x at.candidate _ _ _ cost c.better.ensures c.if-better.false c.rejected-stepped-2.ensures;
      place_value = stays at.altitude at.place _ at.state c.requires.k_bound.1 c.rejected-stepped-2.ensures;
      scratch_2 = ((height-room at.altitude _ at.k _ _ first.r_len.0 pushed.r_after, first.squared_len, first.ranges_len.0), c.requires.scratch.1);
    }
