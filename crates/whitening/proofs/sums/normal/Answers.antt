-- `whitening::sums::normal` meets its contract. The invariant: the sums hold the first i rows. The measure is what is left of `count`. Assumes
-- nothing.
use mathlib.Core.Path.{◌≡◌, refl}
use native.Mathlib.Omega.{arith}
use Rattle.whitening.specs.Normal.{normal_to}
use Rattle.whitening.proofs.Turns.{normal-row}
use Rattle.whitening.proofs.sums.normal.Goals as goal

pub loop-i-init : goal.loop-i-init
unfolding normal_to
loop-i-init c = (omega arith, refl)

pub loop-i-preserved : goal.loop-i-preserved
loop-i-preserved c = (
  omega arith,
  normal-row _ _ _ _ _ _ _ c.loop-i.invariant.1
      c.plus_multiple-g.ensures c.plus_products-m.ensures,
)

pub returns : goal.returns
returns c =
    let all : c.loop-i.i ≡ c.args.count = omega arith in
    rw all at c.loop-i.invariant.1
