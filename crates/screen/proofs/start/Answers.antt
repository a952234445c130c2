-- `screen::start` meets its contract. The invariant: the numbers of those below i are stored (`Filled`). Assumes nothing.
use mathlib.Core.Path.{◌≡◌, refl}
use native.Mathlib.Omega.{arith}
use lib.ListN.{length-set}
use Rattle.screen.specs.Held.{pairs_of}
use Rattle.screen.specs.State.{start}
use Rattle.screen.proofs.Numbers.{filled-start, filled_next, first_count, start-held}
use Rattle.screen.proofs.start.Goals as goal

pub loop-i-init : goal.loop-i-init
loop-i-init c = (refl, filled-start (start c.args.n (pairs_of c.args.rows.now)).counts 32)

pub loop-i-preserved : goal.loop-i-preserved
loop-i-preserved c =
    let at = c.loop-i in
    let all = c.first-alive in
    let rows = c.args.rows.now in
    let n = c.args.n in
    let counted = first_count rows n all.result c.requires all.ensures.0 all.ensures.1 in (
      rw length-set at.invariant.0,
      filled_next (start n (pairs_of rows)).counts at.counts at.i c.count.result (omega arith)
          (counted at.i c.count.result (omega arith) c.count.ensures) at.invariant.1,
    )

pub returns : goal.returns
returns c =
    let at = c.loop-i in
    let all = c.first-alive in
    let e : at.i ≡ c.args.n = omega arith in
    let held = start-held c.args.rows.now c.args.n all.result c.requires all.ensures.0 all.ensures.1 in
    (held at.counts (rw e at at.invariant.1), all.ensures.1)
