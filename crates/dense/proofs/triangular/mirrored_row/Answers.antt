-- `dense::triangular::mirrored_row` meets its contract. The invariant: m holds the row's first j entries and their mirrors, and
-- keeps its length. The measure is what is left of the row. Assumes nothing.
use mathlib.Core.Path.{◌≡◌, refl}
use Prim.Native.Nat.{◌+◌}
use native.Mathlib.Numerals.{add-one}
use native.Mathlib.Omega.{arith}
use Rattle.dense.specs.Mirrored.{mirrored_row_to}
use Rattle.dense.proofs.triangular.mirrored_row.Goals as goal

pub loop-j-init : goal.loop-j-init
unfolding mirrored_row_to
loop-j-init c = (omega arith, refl, refl)

pub loop-j-preserved : goal.loop-j-preserved
unfolding mirrored_row_to
loop-j-preserved c =
    let loop = c.loop-j in (
      omega arith,
      omega arith,
      rw (add-one loop.j, ← loop.invariant.2, c.put_both.ensures, c.columns_dot-value.ensures),
    )

pub shape_of-m : goal.shape_of-m
shape_of-m c = c.loop-j.invariant.1

pub returns : goal.returns
returns c =
    let loop = c.loop-j in
    let all : loop.j ≡ c.args.i + 1 = omega arith in
    rw all at loop.invariant.2
