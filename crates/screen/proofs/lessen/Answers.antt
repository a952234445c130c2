-- `screen::lessen` meets its contract. The invariant: one is taken off each below i that fails with w (`Fewer`). Assumes nothing.
use mathlib.Core.Path.{◌≡◌}
use native.Mathlib.Omega.{arith}
use lib.ListN.{length-set}
use Rattle.screen.specs.Held.{pairs_of}
use Rattle.screen.proofs.Numbers.{fewer-start, fewer-next, fewer-end}
use Rattle.screen.proofs.lessen.Goals as goal

pub loop-i-init : goal.loop-i-init
loop-i-init c = (rw length-set c.requires.2, fewer-start _ _)

pub loop-i-preserved : goal.loop-i-preserved
unfolding pairs_of
loop-i-preserved c =
    let at = c.loop-i in
    (rw length-set at.invariant.0, fewer-next _ _ at.counts at.i c.less.result (omega arith) c.less.ensures at.invariant.1)

pub returns : goal.returns
returns c =
    let at = c.loop-i in
    let e : at.i ≡ c.args.n = omega arith in
    let h = rw e at at.invariant.1 in record {
      counts_len = at.invariant.0;
      counts_after = fewer-end (pairs_of c.args.rows.now) c.args.n c.args.w c.args.counts.now at.counts c.requires.1 (omega arith) h;
    }
