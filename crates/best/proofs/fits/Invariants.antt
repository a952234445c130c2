-- `best::fits` meets its contract. The invariant: the first i places hold the fits from the first i starts beside their places, and the others none.
-- A turn stores one more (`fits-turn`). Assumes nothing.
use mathlib.Core.Path.{◌≡◌}
use Rattle.whitening.specs.Held.{chosen}
use Rattle.damped.specs.Damped.{levenberg_marquardt}
use Rattle.damped.specs.Held.{placed}
use Rattle.best.proofs.Passes.{fits_to}
use Rattle.best.proofs.fits.Given as goal

abbrev pub invariant-loop-i : goal.invariant-loop-i
invariant-loop-i l = l.fits ≡ fits_to (λ p. placed (levenberg_marquardt (chosen l.k l.sites l.z l.l l.altitude) p)) l.at l.i
