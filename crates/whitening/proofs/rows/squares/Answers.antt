-- `whitening::rows::squares` meets its contract. The invariant: the sum holds the squares below i. The measure is what is left of k. Assumes nothing.
use mathlib.Core.Path.{◌≡◌, refl}
use native.Mathlib.Numerals.{add-one}
use native.Mathlib.Omega.{arith}
use Rattle.whitening.specs.Held.{cost_to}
use Rattle.whitening.proofs.rows.squares.Goals as goal

pub loop-i-init : goal.loop-i-init
unfolding cost_to
loop-i-init c = (omega arith, refl)

pub loop-i-preserved : goal.loop-i-preserved
unfolding cost_to
loop-i-preserved c = (omega arith, rw (add-one, ← c.loop-i.invariant.1))

pub returns : goal.returns
returns c =
    let all : c.loop-i.i ≡ c.args.k = omega arith in
    rw all at c.loop-i.invariant.1
