-- `dense::triangular::lower_inverse` meets its contract. The invariant: inv holds the rows below i, and keeps its length. The
-- measure is what is left of n. Assumes nothing.
use mathlib.Core.Path.{◌≡◌, refl}
use native.Mathlib.Numerals.{add-one}
use native.Mathlib.Omega.{arith}
use Rattle.dense.specs.Triangular.{lower_inverse_to}
use Rattle.dense.proofs.triangular.lower_inverse.Goals as goal

pub loop-i-init : goal.loop-i-init
unfolding lower_inverse_to
loop-i-init c = (omega arith, refl, refl)

pub loop-i-preserved : goal.loop-i-preserved
unfolding lower_inverse_to
loop-i-preserved c =
    let loop = c.loop-i in (
      omega arith,
      omega arith,
      rw (add-one loop.i, ← loop.invariant.2, c.lower_row.ensures, c.put.ensures, c.at.ensures),
    )

pub shape_of-inv : goal.shape_of-inv
shape_of-inv c = c.loop-i.invariant.1

pub returns : goal.returns
returns c =
    let loop = c.loop-i in
    let all : loop.i ≡ c.args.n = omega arith in
    rw all at loop.invariant.2
