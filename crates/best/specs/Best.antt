-- `best_fit` of solve.rs, over the fits from a list of starts. Definitions only.
use Rattle.std.specs.Prelude.{Bool, false, not, cond, ◌&&◌, List, [], map, ℕ, length, get_or, replicate, Float}
use Rattle.std.proofs.Math.Option.{Option, none, some}
use Rattle.std.specs.Float.{nan}
use Rattle.std.specs.Float.Ieee.{lt, le}
use Rattle.binary64.specs.Steps.{◌⊕◌, ◌⊖◌, decimal, nought}
use Rattle.dense.specs.Entries.{nth, dots, mul_vec}
use Rattle.dense.specs.Factor as factor
use Rattle.sets.specs.Sets.{any}
use Rattle.sets.specs.Choice.{choose}
use Rattle.problem.specs.Problem.{four}
use Rattle.limits.specs.Limits.{chi2_limit}
use Rattle.whitening.specs.Whitened.{Chosen}
use Rattle.damped.specs.declared.Fit.{Fit}
use Rattle.damped.specs.Damped.{levenberg_marquardt}
use Rattle.best.specs.declared.Unfit.{Unfit}
use Rattle.best.specs.declared.Unfit.TheVariants.{NoConvergence, OutOfRange, Ambiguous, Singular}
use Rattle.best.specs.Plausible.{plausible}

-- `Result<A, SolveError>`: what a step gives, or why it refuses
pub data Outcome (E A : Type 0) : Type 0 where
  refuses : E → Outcome E A
  gives : A → Outcome E A

-- "squared Mahalanobis distance of the four parameters under the best's information": delta · (information delta)
unfoldable pub distance : Fit → Fit → Float
distance best other = let delta = four (λ i. nth other.params i ⊖ nth best.params i) in
    dots (nth delta) (nth (mul_vec best.information 4 delta (replicate 4 nought))) 4

-- not `other.cost > best.cost + AMBIGUOUS_COST`, which is 9, and "outside the best's own 10^-6 ellipsoid": `distance >
-- limit`. Document 01: "Cost equal to best plus 9 is still weighed".
abbrev pub explains_alike : Fit → Fit → Bool
explains_alike best other = not (lt (best.cost ⊕ decimal 9 0) other.cost) && lt (chi2_limit 4) (distance best other)

-- the i-th, and no fit past the last of them
abbrev pub fit_at : List Fit → ℕ → Fit
fit_at fits i = get_or fits i (record {
  ok = false;
  params = [];
  cost = nan;
  information = [];
})

-- the i-th replaces the top, unless its cost is at least the top's: `fits[index].cost >= fits[top].cost`
abbrev pub cheaper : List Fit → ℕ → ℕ → Bool
cheaper fits i top = not (le (fit_at fits top).cost (fit_at fits i).cost)

-- whether one of them passes a test
abbrev pub any_fit : (Fit → Bool) → List Fit → Bool
any_fit p fits = any (λ i. p (fit_at fits i)) (length fits)

-- with the k sites of the receptions used
module _ (sites : List Float) (k : ℕ) where
  -- a fit that `fits` of `best_fit` holds: it converged, and is plausible
  abbrev pub weighed : Fit → Bool
  weighed fit = fit.ok && plausible sites k fit.params

  -- Document 01: "A rival is a fit .. that converged, costs at most the best fit's cost plus 9 and meets the other
  -- tests by which `best_fit` answers 8."
  abbrev pub rival : Fit → Fit → Bool
  rival best other = weighed other && explains_alike best other

  -- the `fold`: "the lowest cost, ties to the earlier start"
  abbrev pub best_of : List Fit → Option ℕ
  best_of fits = choose (λ i. weighed (fit_at fits i)) (cheaper fits) (length fits)

  -- what `best_fit` makes of them
  abbrev pub judged : List Fit → Option ℕ → Outcome Unfit Fit
  judged fits none = refuses (cond (any_fit (λ fit. fit.ok) fits) OutOfRange NoConvergence)
  judged fits (some i) = cond (any_fit (rival (fit_at fits i)) fits) (refuses Ambiguous) (gives (fit_at fits i))

-- the best fit from a list of starts
unfoldable pub best : Chosen → List (List Float) → Outcome Unfit Fit
best C starts = let fits = map (levenberg_marquardt C) starts in
    judged C.sites C.k fits (best_of C.sites C.k fits)

-- `whitener(subset).ok_or(SolveError::Singular)?` comes before the fits
abbrev pub with_whitener : factor.Factor → (List Float → Outcome Unfit Fit) → Outcome Unfit Fit
with_whitener (factor.found l) fit = fit l
with_whitener (factor.refused l) fit = refuses Singular
