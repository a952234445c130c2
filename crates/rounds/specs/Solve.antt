-- `solve_problem` of solve.rs: what the rounds start from, by the problem, and the answer. Definitions only.
use Rattle.std.specs.Prelude.{ℕ, Bool, true, false, cond, List, ℤ, Float}
use Rattle.std.specs.Float.Ieee.{lt}
use Rattle.refusals.specs.Refusals as refusals
use Rattle.binary64.specs.Steps.{◌⊘◌, abs}
use Rattle.dense.specs.Factor.{Factor, found, refused}
use Rattle.sets.specs.Sets.{Subset, count}
use Rattle.sets.specs.Mask.{mask_of}
use Rattle.screen.specs.Pair as pair
use Rattle.screen.specs.Screen as screen
use Rattle.problem.specs.declared.Altitude.{Altitude}
use Rattle.problem.specs.declared.Altitude.TheVariants.{None, Barometric, Gnss}
use Rattle.problem.specs.declared.Problem.{Problem}
use Rattle.problem.specs.Problem.{minimum}
use Rattle.whitening.specs.Covariance.{sigma}
use Rattle.whitening.specs.Whitened.{Chosen, residual, whitened}
use Rattle.limits.specs.Limits.{dof, rounding_norm, published_chi2_limit}
use Rattle.damped.specs.declared.Fit.{Fit}
use Rattle.best.specs.Best.{Outcome, refuses}
use Rattle.best.specs.OfProblem.{Receptions, receptions_of, whitener_over, chosen_over}
use Rattle.best.specs.OfProblem.{best_fit_over}
use Rattle.record.specs.declared.content.Fix.{Fix}
use Rattle.rounds.specs.declared.answer.Refusal.{Refusal}
use Rattle.rounds.specs.declared.answer.Refusal.TheVariants.{TooFew, NoConvergence, OutOfRange, NoFixedPoint}
use Rattle.rounds.specs.declared.answer.Refusal.TheVariants.{Inconsistent}
use Rattle.rounds.specs.declared.answer.Refusal.TheVariants.{Singular, Ambiguous, Uncertain}
use Rattle.rounds.specs.declared.finish.Unpublished.{Unpublished}
use Rattle.rounds.specs.declared.finish.Unpublished.TheVariants as unpublished
use Rattle.rounds.specs.Setting.{Answer, fix, refused, no_fixed_point, Setting}
use Rattle.rounds.specs.Finish.{finish}
use Rattle.rounds.specs.Rounds.{outlier_rounds}

abbrev pub has_altitude : Altitude → Bool
has_altitude None = false
has_altitude (Barometric metres) = true
has_altitude (Gnss metres) = true

-- the limit of chi-square for so many degrees of freedom, of chosen receptions at some parameters
unfoldable pub limit_at : Chosen → ℕ → List Float → Float
limit_at C dof params = let w = whitened C params in
    published_chi2_limit dof (rounding_norm w.a w.b w.c w.d w.count)

-- the normalised residual of reception i at some parameters: `residual(*index, &fit.params).abs() / sigma(*index)`
unfoldable pub normalised : Receptions → List Float → ℕ → Float
normalised R params i = abs (residual R.site R.z params i) ⊘ sigma R.clock R.n R.noise i

module _ (R : Receptions) where
  -- the degrees of freedom of the used receptions S
  abbrev pub dof_of : Subset → ℕ
  dof_of S = dof (count S R.n) (has_altitude R.altitude)

  -- "the source's remaining steps": the whitener again, chi-square, then `finish`
  abbrev pub tested : ℤ → Subset → Fit → Factor → Outcome Unpublished Fix
  tested reference S fit (refused l) = refuses unpublished.Singular
  tested reference S fit (found l) = cond (lt (limit_at (chosen_over R S l) (dof_of S) fit.params) fit.cost)
      (refuses unpublished.Inconsistent) (finish (mask_of S R.n) (dof_of S) reference fit)

  unfoldable pub later : ℤ → Subset → Fit → Outcome Unpublished Fix
  later reference S fit = tested reference S fit (whitener_over R S)

  -- with these kept
  abbrev pub setting_of : Subset → ℤ → Setting (List Float) Fit Fix
  setting_of kept reference = record {
    n = R.n;
    kept = kept;
    minimum = minimum R.altitude;
    best_fit = λ S p. best_fit_over R S p;
    params = λ fit. fit.params;
    residual = λ fit i. normalised R fit.params i;
    later = λ S fit. later reference S fit;
  }

-- "Kept are the s receptions left when no pair fails the screen"
abbrev pub kept_at : List ℤ → List ℤ → ℕ → Subset
kept_at time mm n = screen.kept n (pair.fails time mm n)

abbrev pub setting_at : Problem → Setting (List Float) Fit Fix
setting_at P = setting_of (receptions_of P) (kept_at P.time P.site_mm P.n) P.reference_ps

-- `solve_problem`
unfoldable pub solve_problem : Problem → Answer Fix
solve_problem P = outlier_rounds (setting_at P)

-- ---- document 01's numbers and details
abbrev pub refusal_number : Refusal → ℕ
refusal_number (TooFew included) = refusals.too_few
refusal_number NoConvergence = refusals.no_convergence
refusal_number OutOfRange = refusals.out_of_range
refusal_number NoFixedPoint = refusals.no_fixed_point
refusal_number Inconsistent = refusals.inconsistent
refusal_number Singular = refusals.singular
refusal_number Ambiguous = refusals.ambiguous
refusal_number Uncertain = refusals.uncertain

abbrev pub number : Answer Fix → ℕ
number (fix x) = 0
number (refused why) = refusal_number why
number no_fixed_point = refusals.no_fixed_point

abbrev pub refusal_detail : Refusal → ℕ
refusal_detail (TooFew included) = included
refusal_detail NoConvergence = 0
refusal_detail OutOfRange = 0
refusal_detail NoFixedPoint = 0
refusal_detail Inconsistent = 0
refusal_detail Singular = 0
refusal_detail Ambiguous = 0
refusal_detail Uncertain = 0

abbrev pub detail : Answer Fix → ℕ
detail (fix x) = x.dof
detail (refused why) = refusal_detail why
detail no_fixed_point = 0
