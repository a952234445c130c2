-- `screen::failing` meets its contract. The invariant: the rows hold the failing pairs of the first i. Assumes nothing.
use mathlib.Core.Path.{◌≡◌, refl}
use native.Mathlib.Omega.{arith}
use Rattle.screen.proofs.Rows.{marked-none}
use Rattle.screen.proofs.failing.Goals as goal

pub loop-i-init : goal.loop-i-init
loop-i-init c = (refl, marked-none c.args.times.now c.args.sites.now 32)

pub mark-requires : goal.mark-requires
mark-requires c = record {
  i_bound = (omega arith, c.loop-i.invariant.0);
  rows_value = c.loop-i.invariant.1;
}

pub loop-i-preserved : goal.loop-i-preserved
loop-i-preserved c = (c.mark.ensures.rows_len, c.mark.ensures.rows_after)

pub returns : goal.returns
returns c =
    let s = c.args in
    let e : c.loop-i.i ≡ s.n = omega arith in
    rw e at c.loop-i.invariant.1
