-- `levenberg_marquardt` of solve.rs: the state, one damped step of it, and the run. Definitions only.
use Rattle.std.specs.Prelude.{Bool, true, false, cond, ◌&&◌, List, ℕ, zero, suc, replicate, Float, Option, None, Some}
use Rattle.std.specs.Float.Ieee.{neg, lt, le}
use Rattle.binary64.specs.Steps.{◌⊕◌, ◌⊗◌, ◌⊘◌, nought, decimal, abs, is_finite, max_of}
use Rattle.dense.specs.Entries.{nth, at, put}
use Rattle.dense.specs.Factor.{Factor, found, refused, cholesky}
use Rattle.dense.specs.Solve.{solve}
use Rattle.problem.specs.Problem.{four}
use Rattle.whitening.specs.declared.Equations.{Equations}
use Rattle.whitening.specs.Whitened.{Chosen}
use Rattle.whitening.specs.Normal.{evaluated}
use Rattle.damped.specs.declared.Lm.{Lm}
use Rattle.damped.specs.declared.Verdict.{Verdict}
use Rattle.damped.specs.declared.Verdict.TheVariants.{Accepted, Converged, Rejected, Stopped, Failed}
use Rattle.damped.specs.declared.Stepped.{Stepped}
use Rattle.damped.specs.declared.Fit.{Fit}

-- `damped`, after i turns of `for i in 0..4`: `damped.add(i, i, lambda * information.get(i, i).max(1e-12))`
unfoldable pub damped_to : List Float → Float → ℕ → List Float
damped_to information lambda zero = information
damped_to information lambda (suc i) =
    let m = damped_to information lambda i in
    put m 4 i i (at m 4 i i ⊕ lambda ⊗ max_of (at information 4 i i) (decimal 1 12))

-- `m.cholesky()?.solve(&gradient.map(|value| -value))`: none where the Cholesky fails
abbrev pub solved : Factor → List Float → Option (List Float)
solved (found l) b = Some (solve l 4 b)
solved (refused l) b = None

unfoldable pub descent : List Float → List Float → Option (List Float)
descent m gradient = solved (cholesky m 4 (replicate 16 nought)) (four (λ i. neg (nth gradient i)))

-- `candidate`: the parameters after a step x
unfoldable pub candidate : List Float → List Float → List Float
candidate params x = four (λ i. nth params i ⊕ nth x i)

-- `value.abs() < LM_TOLERANCE_M`, 1e-4: "the step below which it has converged (metres, on every parameter)"
abbrev pub below : Float → Bool
below value = lt (abs value) (decimal 1 4)

-- `step.iter().all(|value| value.abs() < LM_TOLERANCE_M)`
unfoldable pub small : List Float → Bool
small x = below (nth x 0) && (below (nth x 1) && (below (nth x 2) && below (nth x 3)))

-- `next_cost.is_finite() && next_cost <= cost`
unfoldable pub better : Float → Float → Bool
better next cost = is_finite next && le next cost

-- what a step x gives that is taken: the candidate, its normal equations `next`, and `(lambda / 10.0).max(1e-12)`; a
-- small step ends the fit
unfoldable pub accepted : Float → List Float → List Float → Equations → Stepped
accepted lambda x candidate next =
    let state : Lm = record {
      params = candidate;
      information = next.information;
      gradient = next.gradient;
      cost = next.cost;
      lambda = max_of (lambda ⊘ decimal 10 0) (decimal 1 12);
    } in
    record { state = state; verdict = cond (small x) Converged Accepted }

-- what a step gives that is not taken: the state with `lambda *= 10.0`; `if lambda > 1e12 { break; }`
unfoldable pub rejected : Lm → Stepped
rejected s =
    let lambda = s.lambda ⊗ decimal 10 0 in
    let state : Lm = record {
      params = s.params;
      information = s.information;
      gradient = s.gradient;
      cost = s.cost;
      lambda = lambda;
    } in
    record { state = state; verdict = cond (lt (decimal 1_000_000_000_000 0) lambda) Stopped Rejected }

-- what a step x gives that is tried: the candidate is taken or not, by its cost
abbrev pub tried : Chosen → Lm → List Float → List Float → Stepped
tried C s x candidate = let next = evaluated C candidate in
    cond (better next.cost s.cost) (accepted s.lambda x candidate next) (rejected s)

-- what a step gives that is solved for, or that fails
abbrev pub stepped : Chosen → Lm → Option (List Float) → Stepped
stepped C s (Some x) = tried C s x (candidate s.params x)
stepped C s None = record { state = s; verdict = Failed }

-- a turn of the loop over the chosen receptions C: where the damped Cholesky fails the step fails
unfoldable pub step : Chosen → Lm → Stepped
step C s = stepped C s (descent (damped_to s.information s.lambda 4) s.gradient)

-- `Some(Fit { params, cost, information })`, and `None`
abbrev pub fitted : Lm → Fit
fitted s = record {
  ok = true;
  params = s.params;
  cost = s.cost;
  information = s.information;
}

abbrev pub unfitted : Fit
unfitted = record {
  ok = false;
  params = replicate 4 nought;
  cost = nought;
  information = replicate 16 nought;
}

-- a fit where a plain step is solved for and is small
abbrev pub settled : Lm → Option (List Float) → Fit
settled s (Some x) = cond (small x) (fitted s) unfitted
settled s None = unfitted

-- after the loop: "Converged only if a plain Gauss-Newton step from here is below tolerance."
unfoldable pub plain : Lm → Fit
plain s = settled s (descent s.information s.gradient)

-- what follows a step: the steps that are left, which give `on`, or the end
abbrev pub after : Verdict → Lm → Fit → Fit
after Accepted s on = on
after Converged s on = fitted s
after Rejected s on = on
after Stopped s on = plain s
after Failed s on = unfitted

-- at most n steps more
unfoldable pub run : Chosen → ℕ → Lm → Fit
run C zero s = plain s
run C (suc n) s = let t = step C s in after t.verdict t.state (run C n t.state)

-- the state at a start, where the normal equations are e, with the initial damping `LM_LAMBDA`, 1e-3
abbrev pub started : List Float → Equations → Lm
started start e = record {
  params = start;
  information = e.information;
  gradient = e.gradient;
  cost = e.cost;
  lambda = decimal 1 3;
}

-- `levenberg_marquardt`, of at most `LM_ITERATIONS` = 50 steps
unfoldable pub levenberg_marquardt : Chosen → List Float → Fit
levenberg_marquardt C start = run C 50 (started start (evaluated C start))
