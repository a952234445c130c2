-- `dense::sandwiched::product_row` meets its contract. The invariant: m holds the row's first j entries, and keeps its length.
-- The measure is what is left of n. Assumes nothing.
use mathlib.Core.Path.{◌≡◌, refl}
use native.Mathlib.Numerals.{add-one}
use native.Mathlib.Omega.{arith}
use Rattle.dense.specs.Sandwich.{product_row_to}
use Rattle.dense.proofs.sandwiched.product_row.Goals as goal

pub loop-j-init : goal.loop-j-init
unfolding product_row_to
loop-j-init c = (omega arith, refl, refl)

pub loop-j-preserved : goal.loop-j-preserved
unfolding product_row_to
loop-j-preserved c =
    let loop = c.loop-j in (
      omega arith,
      omega arith,
      rw (add-one loop.j, ← loop.invariant.2, c.put.ensures, c.product-value.ensures),
    )

pub shape_of-m : goal.shape_of-m
shape_of-m c = c.loop-j.invariant.1

pub returns : goal.returns
returns c =
    let loop = c.loop-j in
    let all : loop.j ≡ c.args.n = omega arith in
    rw all at loop.invariant.2
