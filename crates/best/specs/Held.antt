-- The fits and the best of them, as the code holds them beside their places and its rounding norm. Definitions only.
use Rattle.std.specs.Prelude.{◌≡◌, List, [], map, ◌∷◌, ◌++◌, ℕ, ◌<◌, zero, suc, length, get_or, Float}
use Rattle.std.specs.Prelude.{Result, Ok, Err}
use Rattle.std.specs.Float.{nan}
use Rattle.geo.specs.Geo.{from_ecef}
use Rattle.dense.specs.Factor.{Factor, found, refused}
use Rattle.linalg.specs.Methods.{zeros}
use Rattle.problem.specs.Problem.{position}
use Rattle.problem.specs.declared.Altitude.{Altitude}
use Rattle.limits.specs.Limits.{rounding_norm}
use Rattle.whitening.specs.Whitened.{Chosen, whitened}
use Rattle.whitening.specs.Held.{chosen}
use Rattle.whitening.specs.Covariance.{whitener}
use Rattle.damped.specs.declared.Fit.{Fit}
use Rattle.damped.specs.declared.Placed.{Placed}
use Rattle.damped.specs.Held.{placed}
use Rattle.starts.specs.Held.{point}
use Rattle.best.specs.declared.Unfit.{Unfit}
use Rattle.best.specs.declared.BestAt.{BestAt}
use Rattle.best.specs.Best.{Outcome, refuses, gives, fit_at, best, with_whitener}
use Rattle.best.specs.OfProblem.{Receptions}

-- the fits alone
abbrev pub fits_of : List Placed → List Fit
fits_of = map (λ (x : Placed). x.fit)

-- the i-th, and no fit at no place past the last of them
abbrev pub placed_at : List Placed → ℕ → Placed
placed_at fits i = get_or fits i (record {
  fit = fit_at [] 0;
  place = record { lat_deg = nan; lon_deg = nan; height_m = nan };
})

-- beside each stands its place
abbrev pub EachPlaced : List Placed → Type 0
EachPlaced fits = (i : ℕ) → i < length fits → placed_at fits i ≡ placed (placed_at fits i).fit

-- the rounding norm of the rows of receptions at some parameters
abbrev pub norm_at : Chosen → List Float → Float
norm_at C params = let w = whitened C params in rounding_norm w.a w.b w.c w.d w.count

-- a refusal, or the best fit beside its place and the rounding norm of its rows
abbrev pub as_best_at : Chosen → Outcome Unfit Fit → Result BestAt Unfit
as_best_at C (refuses e) = Err e
as_best_at C (gives f) = Ok (record { fit = f; place = from_ecef (position f.params); norm = norm_at C f.params })

-- the array of a factor, whether it is found or refused
abbrev pub array_of : Factor → List Float
array_of (found l) = l
array_of (refused l) = l

-- `best_fit`, of the k receptions of `index`
unfoldable pub best_fit : List Float → ℕ → List Float → List ℕ → List Float → List Float → ℕ → Altitude
    → List (List Float) → Outcome Unfit Fit
best_fit clock n noise index sites z k altitude starts =
    with_whitener (whitener clock n noise index k zeros) (λ l. best (chosen k sites z l altitude) starts)

-- the first k starts of the array that holds them
unfoldable pub points_to : List Float → ℕ → List (List Float)
points_to at zero = []
points_to at (suc i) = points_to at i ++ (point at i ∷ [])

abbrev pub receptions : List Float → List Float → List Float → List Float → ℕ → Altitude → Receptions
receptions site z noise clock n altitude = record {
  n = n;
  site = site;
  z = z;
  noise = noise;
  clock = clock;
  altitude = altitude;
}
