-- `best::best_of` meets its contract. The invariant: `top` is the choice among the first i fits. Assumes nothing.
use mathlib.Core.Path.{◌≡◌}
use Rattle.sets.specs.Mask.{has}
use Rattle.best.specs.Held.{fits_of}
use Rattle.best.proofs.Passes.{choice}
use Rattle.best.proofs.best_of.Given as goal

abbrev pub invariant-loop-i : goal.invariant-loop-i
invariant-loop-i l = l.top ≡ choice (has l.mask) (fits_of l.fits) l.i
