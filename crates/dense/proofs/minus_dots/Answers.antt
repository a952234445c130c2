-- `dense::minus_dots` meets its contract. The invariant: the value is what k products have left of v. The places are those that
-- the caller shows. The measure is what is left of m. Assumes nothing.
use mathlib.Core.Path.{◌≡◌, refl}
use native.Mathlib.Numerals.{add-one}
use native.Mathlib.Omega.{arith}
use Rattle.dense.specs.Entries.{minus_dots}
use Rattle.dense.proofs.minus_dots.Goals as goal

pub loop-k-init : goal.loop-k-init
unfolding minus_dots
loop-k-init c = (omega arith, refl)

pub loop-k-preserved : goal.loop-k-preserved
unfolding minus_dots
loop-k-preserved c = (omega arith, rw (add-one, c.loop-k.invariant.1))

pub returns : goal.returns
returns c =
    let loop = c.loop-k in
    let all : loop.k ≡ c.args.m = omega arith in
    rw all at loop.invariant.1
