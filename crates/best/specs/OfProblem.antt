-- The best fit over a set of a problem's receptions, as a round of `solve_problem` makes it: `subset`, `whitener`,
-- `starts` and `best_fit`. Definitions only.
use Rattle.std.specs.Prelude.{true, false, List, ℕ, replicate, Float}
use Rattle.std.proofs.Math.Option.{Option, none, some}
use Rattle.binary64.specs.Steps.{nought}
use Rattle.dense.specs.Factor.{Factor}
use Rattle.linalg.specs.Methods.{zeros}
use Rattle.sets.specs.Sets.{Subset, count, members_to, most_receptions}
use Rattle.problem.specs.declared.Altitude.{Altitude}
use Rattle.problem.specs.declared.Problem.{Problem}
use Rattle.problem.specs.Gathered.{gather_to, sites_to}
use Rattle.whitening.specs.Covariance.{whitener}
use Rattle.whitening.specs.Whitened.{Chosen}
use Rattle.damped.specs.declared.Fit.{Fit}
use Rattle.starts.specs.Starts.{starts_after}
use Rattle.best.specs.declared.Unfit.{Unfit}
use Rattle.best.specs.Best.{Outcome, best, with_whitener}

-- what a fit reads of a problem: its n receptions by their sites, z, noise and clock covariance, and the altitude
pub record Receptions : Type 0 where
  pub n : ℕ
  pub site : List Float
  pub z : List Float
  pub noise : List Float
  pub clock : List Float
  pub altitude : Altitude

abbrev pub receptions_of : Problem → Receptions
receptions_of P = record {
  n = P.n;
  site = P.site;
  z = P.z;
  noise = P.noise_m2;
  clock = P.clock_m2;
  altitude = P.altitude;
}

-- `subset`: those of S below n, ascending; `count S n` of them
abbrev pub subset : ℕ → Subset → List ℕ
subset n S = members_to S (replicate most_receptions 0) n

-- their sites, and their z
abbrev pub subset_sites : List Float → ℕ → Subset → List Float
subset_sites site n S = sites_to site (subset n S) (replicate 96 nought) (count S n)

abbrev pub subset_z : List Float → ℕ → Subset → List Float
subset_z z n S = gather_to z (subset n S) (replicate most_receptions nought) (count S n)

-- over a set S of the receptions R
module _ (R : Receptions) (S : Subset) where
  -- how many they are, their sites and their z
  abbrev pub count_over : ℕ
  count_over = count S R.n

  abbrev pub sites_over : List Float
  sites_over = subset_sites R.site R.n S

  abbrev pub z_over : List Float
  z_over = subset_z R.z R.n S

  -- the factor of their covariance
  abbrev pub whitener_over : Factor
  whitener_over = whitener R.clock R.n R.noise (subset R.n S) count_over zeros

  -- they, as the factor l whitens them
  abbrev pub chosen_over : List Float → Chosen
  chosen_over l = record {
    k = count_over;
    sites = sites_over;
    z = z_over;
    whitener = l;
    altitude = R.altitude;
  }

  -- their starts, the parameters of the round before first where there was one
  abbrev pub starts_over : Option (List Float) → List (List Float)
  starts_over none = starts_after false (replicate 4 nought) sites_over z_over count_over R.altitude
  starts_over (some previous) = starts_after true previous sites_over z_over count_over R.altitude

  -- the round's best fit
  unfoldable pub best_fit_over : Option (List Float) → Outcome Unfit Fit
  best_fit_over previous = with_whitener whitener_over (λ l. best (chosen_over l) (starts_over previous))
