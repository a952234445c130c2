-- `screen::mark` meets its contract. The invariant: reception i and those below j are compared (`Marked`). A failing pair puts a bit into
-- the rows of both (`marked-fails`), any other changes nothing (`marked-passes`). Assumes nothing.
use mathlib.Core.Path.{◌≡◌}
use native.Mathlib.Omega.{arith}
use lib.ListN.{length-set}
use Rattle.screen.proofs.Rows.{marked_start, marked-passes, marked-fails, marked-end}
use Rattle.screen.proofs.mark.Goals as goal
use Rattle.screen.proofs.mark.Goals.{then-clash, else-clash}

pub loop-j-init : goal.loop-j-init
loop-j-init c = (c.requires.i_bound.1, marked_start c.args.times.now c.args.sites.now c.args.rows.now c.args.i c.requires.rows_value)

pub loop-j-preserved : goal.loop-j-preserved
loop-j-preserved c =
    let at = c.loop-j in
    let s = c.args in
    let tested = c.clash in
    let fails = marked-fails s.times.now s.sites.now s.i at.j (omega arith) tested.result tested.ensures in
    let passes = marked-passes s.times.now s.sites.now s.i at.j (omega arith) tested.result tested.ensures in (
      elim c.if-clash.branch [
        | then-clash w ↦ rw (w.rows-is, length-set, length-set) at.invariant.0
        | else-clash w ↦ rw w.rows-is at.invariant.0
      ],
      elim c.if-clash.branch [
        | then-clash w ↦
            rw w.rows-is
            (fails at.rows w.joined.result w.joined-then-clash.result (omega arith) w.if-clash.true w.joined.ensures.0 w.joined-then-clash.ensures.0 at.invariant.1)
        | else-clash w ↦ rw w.rows-is (passes at.rows w.if-clash.false at.invariant.1)
      ],
    )

pub returns : goal.returns
returns c =
    let s = c.args in
    let at = c.loop-j in
    let e : at.j ≡ s.i = omega arith in record {
      rows_len = at.invariant.0;
      rows_after = marked-end s.times.now s.sites.now at.rows s.i (rw e at at.invariant.1);
    }
