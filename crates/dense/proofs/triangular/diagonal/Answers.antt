-- `dense::triangular::diagonal` meets its contract. The invariant: d holds the first i entries, and keeps its length. The measure
-- is what is left of n. Assumes nothing.
use mathlib.Core.Path.{◌≡◌, refl}
use native.Mathlib.Numerals.{add-one}
use native.Mathlib.Omega.{arith}
use lib.ListN.{length-set}
use Rattle.dense.specs.Triangular.{diagonal_to}
use Rattle.dense.proofs.triangular.diagonal.Goals as goal

pub loop-i-init : goal.loop-i-init
unfolding diagonal_to
loop-i-init c = (omega arith, refl, refl)

pub loop-i-preserved : goal.loop-i-preserved
unfolding diagonal_to
loop-i-preserved c =
    let loop = c.loop-i in
    (omega arith, simp length-set loop.invariant.1, rw (add-one loop.i, ← loop.invariant.2, c.columns_dot.ensures))

pub shape_of-d : goal.shape_of-d
shape_of-d c = c.loop-i.invariant.1

pub returns : goal.returns
returns c =
    let loop = c.loop-i in
    let all : loop.i ≡ c.args.n = omega arith in
    rw all at loop.invariant.2
