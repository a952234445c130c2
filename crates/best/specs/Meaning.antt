-- What the best fit is and when each refusal is given, in words that know nothing of the computation. Statements only:
-- proofs/Found.antt and proofs/Over.antt prove them.
use Rattle.std.specs.Prelude.{◌≡◌, ◌≢◌, ◌↔◌, not, List, [], ℕ, ◌≤◌, ◌<◌, T, length, get_or, Float}
use Rattle.std.proofs.Math.Option.{Option}
use Rattle.std.specs.Float.Ieee.{lt, le, is_nan}
use Rattle.binary64.specs.Steps.{◌⊕◌, decimal}
use Rattle.geo.specs.Geo.{from_ecef}
use Rattle.dense.specs.Factor as factor
use Rattle.sets.specs.Sets.{Subset, most_receptions}
use Rattle.problem.specs.Problem.{position, range}
use Rattle.whitening.specs.Whitened.{Chosen}
use Rattle.damped.specs.declared.Fit.{Fit}
use Rattle.damped.specs.Damped.{levenberg_marquardt}
use Rattle.limits.specs.Heights.{min_height_m, max_height_m}
use Rattle.limits.specs.Limits.{chi2_limit}
use Rattle.best.specs.declared.Unfit.TheVariants.{NoConvergence, OutOfRange, Ambiguous, Singular}
use Rattle.best.specs.Plausible.{max_range_m}
use Rattle.best.specs.Best.{gives, refuses, distance, best}
use Rattle.best.specs.OfProblem.{Receptions, whitener_over, chosen_over, starts_over, best_fit_over}

-- Demand 3: "used ranges at most 600,000 m, height -1,500 to 25,000 m", as binary64 compares. The k sites are those of
-- the receptions C.
pub record Plausible (C : Chosen) (fit : Fit) : Type 0 where
  pub above : T (le min_height_m (from_ecef (position fit.params)).height_m)
  pub below : T (le (from_ecef (position fit.params)).height_m max_height_m)
  pub near : (j : ℕ) → j < C.k → T (le (range C.sites (position fit.params) j) max_range_m)

-- over the receptions C, from a list of starts
module _ (C : Chosen) (starts : List (List Float)) where
  -- the fit from the i-th
  abbrev pub fit_from : ℕ → Fit
  fit_from i = levenberg_marquardt C (get_or starts i [])

  -- the j-th is a start, and its fit converged
  pub record Converges (j : ℕ) : Type 0 where
    pub listed : j < length starts
    pub converged : T (fit_from j).ok

  -- and is plausible: such fits are weighed against each other
  pub record Weighed (j : ℕ) : Type 0 where
    pub converges : Converges j
    pub plausible : Plausible C (fit_from j)

  -- The fit from the i-th start leads: of all that are weighed, it among them, none costs less, and each from an
  -- earlier start costs more.
  pub record Leads (i : ℕ) : Type 0 where
    pub weighed : Weighed i
    pub cheapest : (j : ℕ) → Weighed j → T (le (fit_from i).cost (fit_from j).cost)
    pub earliest : (j : ℕ) → j < i → Weighed j → T (lt (fit_from i).cost (fit_from j).cost)

  -- Document 01: "A rival is a fit over the used receptions, from any other start, that converged, costs at most the
  -- best fit's cost plus 9 and meets the other tests by which `best_fit` answers 8": it is plausible, and "outside the
  -- best's own 10^-6 ellipsoid".
  pub record Rival (i j : ℕ) : Type 0 where
    pub other : j ≢ i
    pub weighed : Weighed j
    pub costs : T (le (fit_from j).cost ((fit_from i).cost ⊕ decimal 9 0))
    pub outside : T (lt (chi2_limit 4) (distance (fit_from i) (fit_from j)))

  -- the fit is the best: from the i-th start, which leads, and no fit from another is its rival
  pub record IsBest (fit : Fit) (i : ℕ) : Type 0 where
    pub from : fit ≡ fit_from i
    pub leads : Leads i
    pub alone : (j : ℕ) → Rival i j → ⊥

-- "outside", and not on its edge: at exactly the limit's distance no fit is a rival
abbrev pub NoRivalAtLimit : Type 0
NoRivalAtLimit =
    (C : Chosen) (starts : List (List Float)) (i j : ℕ)
    → distance (fit_from C starts i) (fit_from C starts j) ≡ chi2_limit 4 → Rival C starts i j → ⊥

-- ---- the refusals, of receptions and their starts

-- 8: one leads, and has a rival
abbrev pub Rivalled : Chosen → List (List Float) → Type 0
Rivalled C starts = (i : ℕ) × (j : ℕ) × Leads C starts i × Rival C starts i j

-- 2: "no start converges"
abbrev pub NoneConverges : Chosen → List (List Float) → Type 0
NoneConverges C starts = (j : ℕ) → Converges C starts j → ⊥

-- 3: "some converge, none plausible"
abbrev pub NonePlausible : Chosen → List (List Float) → Type 0
NonePlausible C starts = ((i : ℕ) × Converges C starts i) × ((j : ℕ) → Weighed C starts j → ⊥)

module _ (C : Chosen) (starts : List (List Float)) where
  -- Each is what `best` answers exactly when it is so, and it never answers 6. A fit that converged has a number for
  -- its cost, so that costs can be ranked.
  pub record Answered : Type 0 where
    pub numbers : (i : ℕ) → T (fit_from C starts i).ok → T (not (is_nan (fit_from C starts i).cost))
    pub found : (fit : Fit) → (best C starts ≡ gives fit) ↔ ((i : ℕ) × IsBest C starts fit i)
    pub ambiguous : (best C starts ≡ refuses Ambiguous) ↔ Rivalled C starts
    pub no_convergence : (best C starts ≡ refuses NoConvergence) ↔ NoneConverges C starts
    pub out_of_range : (best C starts ≡ refuses OutOfRange) ↔ NonePlausible C starts
    pub not_singular : best C starts ≡ refuses Singular → ⊥

-- over a set S of the receptions R, after a round that found the parameters `previous`
module _ (R : Receptions) (S : Subset) (previous : Option (List Float)) where
  -- the fit from the i-th of the round's starts is the best, and each reception of S is within its range; l whitens the
  -- receptions
  pub record IsBestOver (fit : Fit) (l : List Float) (i : ℕ) : Type 0 where
    pub whitens : whitener_over R S ≡ factor.found l
    pub best : IsBest (chosen_over R S l) (starts_over R S previous) fit i
    pub near : (j : ℕ) → j < R.n → T (S j) → T (le (range R.site (position fit.params) j) max_range_m)

  -- some l whitens them, and this holds of what it makes of them and of the round's starts
  abbrev pub Whitened : (Chosen → List (List Float) → Type 0) → Type 0
  Whitened Holds = (l : List Float) × (whitener_over R S ≡ factor.found l)
      × Holds (chosen_over R S l) (starts_over R S previous)

  -- each is what a round's `best_fit` answers exactly when it is so; 6 where "a Cholesky of covariance .. fails"
  pub record AnsweredOver : Type 0 where
    pub found : R.n ≤ most_receptions → (fit : Fit) → (best_fit_over R S previous ≡ gives fit)
        ↔ ((l : List Float) × (i : ℕ) × IsBestOver fit l i)
    pub ambiguous : (best_fit_over R S previous ≡ refuses Ambiguous) ↔ Whitened Rivalled
    pub no_convergence : (best_fit_over R S previous ≡ refuses NoConvergence) ↔ Whitened NoneConverges
    pub out_of_range : (best_fit_over R S previous ≡ refuses OutOfRange) ↔ Whitened NonePlausible
    pub singular : (best_fit_over R S previous ≡ refuses Singular)
        ↔ ((l : List Float) × (whitener_over R S ≡ factor.refused l))
