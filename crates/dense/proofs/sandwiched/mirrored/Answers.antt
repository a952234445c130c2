-- `dense::sandwiched::mirrored` meets its contract. The invariant: m holds the rows below i and their mirrors, and keeps its
-- length. The measure is what is left of n. Assumes nothing.
use mathlib.Core.Path.{◌≡◌, refl}
use native.Mathlib.Numerals.{add-one}
use native.Mathlib.Omega.{arith}
use Rattle.dense.specs.Mirrored.{mirrored_to}
use Rattle.dense.proofs.sandwiched.mirrored.Goals as goal

pub loop-i-init : goal.loop-i-init
unfolding mirrored_to
loop-i-init c = (omega arith, refl, refl)

pub loop-i-preserved : goal.loop-i-preserved
unfolding mirrored_to
loop-i-preserved c =
    let loop = c.loop-i in
    (omega arith, omega arith, rw (add-one loop.i, ← loop.invariant.2, c.mirrored_row.ensures, add-one))

pub shape_of-m : goal.shape_of-m
shape_of-m c = c.loop-i.invariant.1

pub returns : goal.returns
returns c =
    let loop = c.loop-i in
    let all : loop.i ≡ c.args.n = omega arith in
    rw all at loop.invariant.2
