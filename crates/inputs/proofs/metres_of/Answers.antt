-- `inputs::metres_of` meets its contract: each turn stores the next site's three (`metres-next`). Assumes nothing.
use mathlib.Core.Path.{◌≡◌, refl}
use native.Mathlib.Omega.{arith}
use Rattle.receptions.specs.Receptions.{fill_to}
use Rattle.inputs.proofs.Steps.{metres-next}
use Rattle.inputs.proofs.metres_of.Goals as goal

pub loop-i-init : goal.loop-i-init
unfolding fill_to
loop-i-init c = (omega arith, refl)

pub loop-i-preserved : goal.loop-i-preserved
loop-i-preserved c = (
  omega arith,
  metres-next c.args.mm.now c.loop-i.i c.loop-i.invariant.1 c.site_in-site.ensures
      c.from_mm.ensures c.put_metres.ensures,
)

pub returns : goal.returns
returns c = let e : c.loop-i.i ≡ c.args.n = omega arith in rw e at c.loop-i.invariant.1
