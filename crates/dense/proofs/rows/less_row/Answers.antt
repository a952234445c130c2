-- `dense::rows::less_row` meets its contract. The invariant: the factor times row k is taken from the row's first j entries, and
-- r keeps its length. That an entry lies in r is `place_in`. The measure is what is left of the width. Assumes nothing.
use mathlib.Core.Path.{◌≡◌, refl}
use native.Mathlib.Numerals.{add-one}
use native.Mathlib.Omega.{arith}
use lib.ListN.{length-set}
use Rattle.dense.specs.Rows.{less_row_to}
use Rattle.dense.proofs.rows.less_row.Goals as goal

pub loop-j-init : goal.loop-j-init
unfolding less_row_to
loop-j-init c = (omega arith, refl, refl)

pub loop-j-preserved : goal.loop-j-preserved
unfolding less_row_to
loop-j-preserved c =
    let loop = c.loop-j in
    (omega arith, simp length-set loop.invariant.1, rw (add-one loop.j, ← loop.invariant.2))

pub shape_of-r : goal.shape_of-r
shape_of-r c = c.loop-j.invariant.1

pub returns : goal.returns
returns c =
    let loop = c.loop-j in
    let all : loop.j ≡ c.args.width = omega arith in
    rw all at loop.invariant.2
