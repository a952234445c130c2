-- What holds of the parameters and the cost of a start and of every candidate holds of a fit's: each step keeps both, or takes a candidate with its
-- own cost, and a fit that fails has zeros. Assumes nothing.
use mathlib.Core.Bool.{Bool, true, false, cond}
use mathlib.Core.List.{List}
use Prim.Native.Nat.{ℕ, zero, suc}
use lib.ListN.{replicate}
use lib.Ieee.{Float}
use Rattle.std.specs.Prelude.{Option, None, Some}
use Rattle.binary64.specs.Steps.{nought}
use Rattle.whitening.specs.Whitened.{Chosen}
use Rattle.whitening.specs.Normal.{evaluated}
use Rattle.damped.specs.declared.Lm.{Lm}
use Rattle.damped.specs.declared.Verdict.{Verdict}
use Rattle.damped.specs.declared.Verdict.TheVariants.{Accepted, Converged, Rejected, Stopped, Failed}
use Rattle.damped.specs.declared.Stepped.{Stepped}
use Rattle.damped.specs.declared.Fit.{Fit}
use Rattle.damped.specs.Damped.{damped_to, descent, candidate, small, better, accepted, rejected, stepped, step, fitted, unfitted, settled, plain}
use Rattle.damped.specs.Damped.{after}
use Rattle.damped.specs.Damped.{run, started, levenberg_marquardt}

module _ (C : Chosen) (Holds : List Float → Float → Type 0)
    (moves : (p x : List Float) → Holds (candidate p x) (evaluated C (candidate p x)).cost)
    (fails : Holds (replicate 4 nought) nought) where
  abbrev OfStep : Stepped → Type 0
  OfStep t = Holds t.state.params t.state.cost

  abbrev OfFit : Fit → Type 0
  OfFit fit = Holds fit.params fit.cost

  step_keeps : (s : Lm) → Holds s.params s.cost → OfStep (step C s)
  unfolding step accepted rejected
  step_keeps s h = go (descent (damped_to s.information s.lambda 4) s.gradient)
    where
      taken : (x : List Float) (b : Bool)
          → OfStep (cond b (accepted s.lambda x (candidate s.params x) (evaluated C (candidate s.params x))) (rejected s))
      taken x true = moves s.params x
      taken x false = h

      go : (o : Option (List Float)) → OfStep (stepped C s o)
      go (Some x) = taken x (better (evaluated C (candidate s.params x)).cost s.cost)
      go None = h

  plain-keeps : (s : Lm) → Holds s.params s.cost → OfFit (plain s)
  unfolding plain
  plain-keeps s h = go (descent s.information s.gradient)
    where
      held : (b : Bool) → OfFit (cond b (fitted s) unfitted)
      held true = h
      held false = fails

      go : (o : Option (List Float)) → OfFit (settled s o)
      go (Some x) = held (small x)
      go None = fails

  after-keeps : (v : Verdict) (s : Lm) (on : Fit) → Holds s.params s.cost → OfFit on → OfFit (after v s on)
  after-keeps Accepted s on h k = k
  after-keeps Converged s on h k = h
  after-keeps Rejected s on h k = k
  after-keeps Stopped s on h k = plain-keeps s h
  after-keeps Failed s on h k = fails

  run-keeps : (n : ℕ) (s : Lm) → Holds s.params s.cost → OfFit (run C n s)
  unfolding run
  run-keeps zero s h = plain-keeps s h
  run-keeps (suc n) s h =
      let k = step_keeps s h in
      after-keeps (step C s).verdict (step C s).state (run C n (step C s).state) k (run-keeps n (step C s).state k)

  pub fit-keeps : (start : List Float) → Holds start (evaluated C start).cost → OfFit (levenberg_marquardt C start)
  unfolding levenberg_marquardt
  fit-keeps start h = run-keeps 50 (started start (evaluated C start)) h
