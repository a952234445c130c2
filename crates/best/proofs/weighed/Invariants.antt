-- `best::weighed` meets its contract. The invariant: the mask has those of the first i fits that are weighed. A weighed fit joins (`mask-joins`), any
-- other changes nothing (`mask-stays`). Assumes nothing.
use mathlib.Core.Path.{◌≡◌}
use Prim.Native.Nat.{ℕ}
use lib.ListN.{take}
use Rattle.sets.specs.Mask.{has}
use Rattle.best.specs.Best.{fit_at, weighed}
use Rattle.best.specs.Held.{fits_of}
use Rattle.best.proofs.weighed.Given as goal

abbrev pub invariant-loop-i : goal.invariant-loop-i
invariant-loop-i l = has l.mask ≡ (λ (j : ℕ). weighed l.sites l.k (fit_at (take l.i (fits_of l.fits)) j))
