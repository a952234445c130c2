-- `dense::symmetrise` meets its contract. The invariant: the rows below `row` are symmetrised, and m keeps its length. The measure is what is left of
-- n. Assumes nothing.
use mathlib.Core.Path.{◌≡◌, refl}
use native.Mathlib.Numerals.{add-one}
use native.Mathlib.Omega.{arith}
use Rattle.dense.specs.Inverse.{symmetrise_to}
use Rattle.dense.proofs.symmetrise.Goals as goal

pub loop-row-init : goal.loop-row-init
unfolding symmetrise_to
loop-row-init c = (omega arith, refl, refl)

pub loop-row-preserved : goal.loop-row-preserved
unfolding symmetrise_to
loop-row-preserved c =
    let loop = c.loop-row in
    (omega arith, omega arith, rw (add-one, ← loop.invariant.2, c.symmetrise_row.ensures))

pub shape_of-m : goal.shape_of-m
shape_of-m c = c.loop-row.invariant.1

pub returns : goal.returns
returns c =
    let loop = c.loop-row in
    let all : loop.row ≡ c.args.n = omega arith in
    rw all at loop.invariant.2
