-- The best fit of what the code gathers, from the starts in their array, is the definition's. Assumes nothing.
use Rattle.std.proofs.Common.{◌≡◌, ◌≤◌, Bool, true, false, cond, List, refl, ap, ◌∙◌, ap₂, arith}
use Rattle.std.specs.Prelude as std
use mathlib.Core.Option.{none, some}
use lib.Ieee.{Float}
use Rattle.sets.specs.Sets.{Subset, count}
use Rattle.linalg.specs.Methods.{zeros}
use Rattle.whitening.specs.Covariance.{whitener}
use Rattle.whitening.specs.Whitened.{Chosen}
use Rattle.whitening.specs.Held.{chosen}
use Rattle.damped.specs.declared.Fit.{Fit}
use Rattle.starts.specs.declared.Points.{Points}
use Rattle.starts.specs.Held.{empty, packed}
use Rattle.starts.specs.Starts.{starts_after}
use Rattle.starts.proofs.Count.{starts-count, starts-most}
use Rattle.best.specs.declared.Unfit.{Unfit}
use Rattle.best.specs.Best.{Outcome}
use Rattle.best.specs.Held.{array_of, as_best_at, best_fit, points_to}
use Rattle.best.specs.OfProblem.{Receptions, subset_sites, subset_z, starts_over, best_fit_over}
use Rattle.best.proofs.Listing.{points-back}
use Rattle.rounds.specs.declared.fitting.Gathered.{Gathered}
use Rattle.rounds.specs.Held.{gathered, found_before, held_over}

module _ (R : Receptions) (S : Subset) (had : Bool) (previous : List Float) where
  starts-are : (t : Bool) → starts_after t previous (subset_sites R.site R.n S) (subset_z R.z R.n S) (count S R.n) R.altitude
      ≡ starts_over R S (cond t (some previous) none)
  unfolding starts_after
  starts-are true = refl
  starts-are false = refl

  module _ (g : Gathered) (e : g ≡ gathered R.site R.z R.n S) (r : Points)
      (q : r ≡ packed empty (starts_after had previous g.sites g.z g.k R.altitude)) where
    pub starts-few : r.n ≤ 18
    starts-few = omega (
      arith,
      starts-count g.sites g.z g.k R.altitude had previous r q,
      starts-most g.sites g.z g.k R.altitude had previous,
    )

    abbrev fits_from : Gathered → List (List Float) → Outcome Unfit Fit
    fits_from x ps = best_fit R.clock R.n R.noise x.index x.sites x.z x.k R.altitude ps

    fit_is : fits_from g (points_to r.at r.n) ≡ best_fit_over R S (cond had (some previous) none)
    unfolding best_fit best_fit_over
    fit_is =
        ap (fits_from g) (points-back g.sites g.z g.k R.altitude had previous r q)
        ∙ ap (λ (x : Gathered). fits_from x (starts_after had previous x.sites x.z x.k R.altitude)) e
        ∙ ap (fits_from (gathered R.site R.z R.n S)) (starts-are had)

    -- the gathered receptions, as their factor whitens them
    abbrev heard : Gathered → Chosen
    heard x = chosen x.k x.sites x.z (array_of (whitener R.clock R.n R.noise x.index x.k zeros)) R.altitude

    pub held-is : as_best_at (heard g) (fits_from g (points_to r.at r.n)) ≡ held_over R S (cond had (some previous) none)
    held-is = ap₂ as_best_at (ap heard e) fit_is

-- the round before, as it is handed over
pub before-is : (o : std.Option (List Float)) (d : List Float) → cond (std.is_some o) (some (std.unwrap_or o d)) none ≡ found_before o
before-is std.None d = refl
before-is (std.Some p) d = refl
