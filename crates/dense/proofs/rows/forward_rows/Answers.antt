-- `dense::rows::forward_rows` meets its contract. The invariant: r holds R in its rows below i and Q in the others, and keeps its
-- length. That row i lies in r is `rows_in`. The measure is what is left of n. Assumes nothing.
use mathlib.Core.Path.{◌≡◌, refl}
use native.Mathlib.Numerals.{add-one}
use native.Mathlib.Omega.{arith}
use Rattle.dense.specs.Rows.{forward_rows_to}
use Rattle.dense.proofs.Places.{rows_in}
use Rattle.dense.proofs.rows.forward_rows.Goals as goal

pub loop-i-init : goal.loop-i-init
unfolding forward_rows_to
loop-i-init c = (omega arith, refl, refl)

pub less_rows-requires : goal.less_rows-requires
less_rows-requires c =
    let args = c.args in
    omega (arith, rows_in c.loop-i.i args.n args.width (omega arith))

pub over-requires : goal.over-requires
over-requires c =
    let args = c.args in
    omega (arith, rows_in c.loop-i.i args.n args.width (omega arith))

pub loop-i-preserved : goal.loop-i-preserved
unfolding forward_rows_to
loop-i-preserved c =
    let loop = c.loop-i in (
      omega arith,
      omega arith,
      rw (add-one loop.i, ← loop.invariant.2, c.over.ensures, c.at.ensures, c.less_rows.ensures),
    )

pub shape_of-r : goal.shape_of-r
shape_of-r c = c.loop-i.invariant.1

pub returns : goal.returns
returns c =
    let loop = c.loop-i in
    let all : loop.i ≡ c.args.n = omega arith in
    rw all at loop.invariant.2
