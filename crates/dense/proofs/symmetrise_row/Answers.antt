-- `dense::symmetrise_row` meets its contract. The invariant: m holds the means of the columns from row + 1 to below `column`, and keeps its length.
-- The measure is what is left of n. Assumes nothing.
use mathlib.Core.Path.{◌≡◌, refl}
use Prim.Native.Nat.{suc, ◌+◌, ◌-◌}
use native.Mathlib.Nat.{sub_self, add-sub_of_le}
use native.Mathlib.Omega.{arith}
use Rattle.dense.specs.Inverse.{symmetrise_row_to}
use Rattle.dense.proofs.symmetrise_row.Goals as goal

pub loop-column-init : goal.loop-column-init
unfolding symmetrise_row_to
loop-column-init c = (omega arith, omega arith, refl, rw sub_self)

pub loop-column-preserved : goal.loop-column-preserved
unfolding symmetrise_row_to
loop-column-preserved c =
    let loop = c.loop-column in
    let row = c.args.row in
    let next : loop.column + 1 - (row + 1) ≡ suc (loop.column - (row + 1)) = omega arith in (
      omega arith,
      omega arith,
      omega arith,
      rw (
        next,
        add-sub_of_le loop.invariant.0,
        ← loop.invariant.3,
        c.put-in-loop-column.ensures,
        c.put.ensures,
        c.at-in-loop-column.ensures,
        c.at.ensures,
      ),
    )

pub shape_of-m : goal.shape_of-m
shape_of-m c = c.loop-column.invariant.2

pub returns : goal.returns
returns c =
    let loop = c.loop-column in
    let all : loop.column ≡ c.args.n = omega arith in
    rw all at loop.invariant.3
