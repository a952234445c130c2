-- The steps after the rounds, by the tests that their code makes. Assumes nothing.
use Rattle.std.proofs.Common.{◌≡◌, ℕ, ◌^◌, ◌<◌, ◌≤◌, Bool, true, false, cond, ℤ, sym, ap, ◌∙◌, ap₂}
use lib.Ieee.{Float, lt}
use Rattle.dense.specs.Factor.{found}
use Rattle.sets.specs.Sets.{count}
use Rattle.sets.specs.Mask.{has, mask_of}
use Rattle.sets.proofs.Masks.{count-within, mask-back}
use Rattle.limits.specs.Limits.{dof, published_chi2_limit}
use Rattle.damped.specs.declared.Fit.{Fit}
use Rattle.best.specs.Best.{Outcome, refuses}
use Rattle.best.specs.OfProblem.{Receptions, chosen_over}
use Rattle.record.specs.declared.content.Fix.{Fix}
use Rattle.rounds.specs.declared.finish.Unpublished.{Unpublished}
use Rattle.rounds.specs.declared.finish.Unpublished.TheVariants.{Inconsistent}
use Rattle.rounds.specs.Finish.{finish}
use Rattle.rounds.specs.Solve.{has_altitude, limit_at, dof_of, tested, later}
use Rattle.rounds.specs.Held.{NormOf}

module _ (R : Receptions) (reference : ℤ) (mask : ℕ) (M : mask < 2 ^ R.n) (N : R.n ≤ 32) (fit : Fit) (norm : Float)
    (B : NormOf R (has mask) fit norm) (d : ℕ) (D : d ≡ dof (count (has mask) 32) (has_altitude R.altitude))
    (x : Float) (L : x ≡ published_chi2_limit d norm) where
  abbrev settling : Outcome Unpublished Fix
  settling = later R reference (has mask) fit

  factored : tested R reference (has mask) fit (found B.0) ≡ settling
  unfolding later
  factored = ap (tested R reference (has mask) fit) (sym B.1)

  freedom : d ≡ dof_of R (has mask)
  freedom = D ∙ ap (λ (c : ℕ). dof c (has_altitude R.altitude)) (count-within R.n mask M N)

  limited : x ≡ limit_at (chosen_over R (has mask) B.0) (dof_of R (has mask)) fit.params
  unfolding limit_at
  limited = L ∙ ap₂ published_chi2_limit freedom B.2

  judged : (t : Bool) → lt x fit.cost ≡ t → cond t (refuses Inconsistent)
      (finish (mask_of (has mask) R.n) (dof_of R (has mask)) reference fit) ≡ settling
  judged t h =
      ap (λ (b : Bool). cond b (refuses Inconsistent) (finish (mask_of (has mask) R.n) (dof_of R (has mask)) reference fit))
      (sym h ∙ ap (λ (y : Float). lt y fit.cost) limited) ∙ factored

  pub late-inconsistent : lt x fit.cost ≡ true → refuses Inconsistent ≡ settling
  late-inconsistent h = judged true h

  pub late-finish : lt x fit.cost ≡ false → finish mask d reference fit ≡ settling
  late-finish h =
      ap (λ (m : ℕ). finish m d reference fit) (sym (mask-back R.n mask M))
      ∙ ap (λ (c : ℕ). finish (mask_of (has mask) R.n) c reference fit) freedom ∙ judged false h
