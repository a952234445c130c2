-- `binary64::square_root::each` meets its contract. The invariant: the array has the roots below i. The measure is what is left of k. Assumes
-- nothing.
use mathlib.Core.Path.{◌≡◌, refl}
use native.Mathlib.Numerals.{add-one}
use native.Mathlib.Omega.{arith}
use Rattle.binary64.specs.Held.{roots_to}
use Rattle.binary64.proofs.square_root.each.Goals as goal

pub loop-i-init : goal.loop-i-init
unfolding roots_to
loop-i-init c = (omega arith, refl)

pub loop-i-preserved : goal.loop-i-preserved
unfolding roots_to
loop-i-preserved c = (omega arith, rw (add-one, ← c.loop-i.invariant.1, c.sqrt.ensures))

pub returns : goal.returns
returns c = let all : c.loop-i.i ≡ c.args.k = omega arith in rw all at c.loop-i.invariant.1
