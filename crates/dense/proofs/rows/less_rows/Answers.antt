-- `dense::rows::less_rows` meets its contract. The invariant: the first k rows are taken from the row, and r keeps its length.
-- The two ways on are the two cases of the definition. The measure is what is left of i. Assumes nothing.
use mathlib.Core.Path.{◌≡◌, refl}
use native.Mathlib.Numerals.{add-one}
use native.Mathlib.Omega.{arith}
use Rattle.dense.specs.Rows.{less_rows_to}
use Rattle.dense.proofs.rows.less_rows.Goals as goal

pub loop-k-init : goal.loop-k-init
unfolding less_rows_to
loop-k-init c = (omega arith, refl, refl)

pub loop-k-preserved-then-factor : goal.loop-k-preserved-then-factor
unfolding less_rows_to
loop-k-preserved-then-factor c =
    let loop = c.loop-k in
    (omega arith, loop.invariant.1, rw (add-one loop.k, ← loop.invariant.2, ← c.at-factor.ensures, c.if-factor.true))

pub loop-k-preserved : goal.loop-k-preserved
unfolding less_rows_to
loop-k-preserved c =
    let loop = c.loop-k in (
      omega arith,
      omega arith,
      rw (add-one loop.k, ← loop.invariant.2, ← c.at-factor.ensures, c.if-factor.false, c.less_row.ensures),
    )

pub shape_of-r : goal.shape_of-r
shape_of-r c = c.loop-k.invariant.1

pub returns : goal.returns
returns c =
    let loop = c.loop-k in
    let all : loop.k ≡ c.args.i = omega arith in
    rw all at loop.invariant.2
