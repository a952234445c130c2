-- `patterns::failing` meets its contract. The invariant: the rows below a are those of the pattern (`Filled`). Assumes nothing.
use mathlib.Core.Path.{◌≡◌, refl}
use native.Mathlib.Omega.{arith}
use lib.ListN.{length-set}
use Rattle.patterns.proofs.Rows.{filled-start, filled_next, filled-end}
use Rattle.patterns.proofs.failing.Goals as goal

pub loop-a-init : goal.loop-a-init
loop-a-init c = (refl, filled-start c.args.n c.args.pattern 32)

pub loop-a-preserved : goal.loop-a-preserved
loop-a-preserved c =
    let at = c.loop-a in
    let s = c.args in (
      rw length-set at.invariant.0,
      filled_next s.n s.pattern at.rows at.a c.row.result (omega (arith, at.invariant.0)) c.row.ensures at.invariant.1,
    )

pub returns : goal.returns
returns c =
    let s = c.args in
    let at = c.loop-a in
    let e : at.a ≡ s.n = omega arith in
    filled-end s.n s.pattern at.rows (rw e at at.invariant.1)
