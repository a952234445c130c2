-- `best::fits` meets its contract. The invariant: the first i places hold the fits from the first i starts beside their places, and the others none.
-- A turn stores one more (`fits-turn`). Assumes nothing.
use mathlib.Core.Path.{ap, ◌∙◌}
use mathlib.Core.List.{List}
use native.Mathlib.Omega.{arith}
use lib.ListN.{set, replicate}
use lib.Ieee.{Float}
use Rattle.whitening.specs.Held.{chosen}
use Rattle.damped.specs.declared.Placed.{Placed}
use Rattle.damped.specs.Damped.{levenberg_marquardt}
use Rattle.damped.specs.Held.{placed}
use Rattle.best.specs.Held.{points_to}
use Rattle.best.proofs.Passes.{fits-turn}
use Rattle.best.proofs.fits.Goals as goal

pub loop-i-init : goal.loop-i-init
unfolding points_to
loop-i-init c = ap (replicate 18) c.unfitted-fits.ensures

pub loop-i-preserved : goal.loop-i-preserved
loop-i-preserved c =
    let s = c.args in
    let at = c.loop-i in
    let fit = c.levenberg_marquardt in
    let f : List Float → Placed = λ p. placed (levenberg_marquardt (chosen s.k s.sites.now s.z.now s.l.now s.altitude) p) in
    ap (λ (fs : List Placed). set fs at.i fit.result) at.invariant
    ∙ fits-turn f s.at.now at.i fit.result (omega arith) (fit.ensures ∙ ap f c.point.ensures)
