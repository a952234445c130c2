-- When a step ends a fit and when the last test finds one, in words that know nothing of the loop. Statements only:
-- proofs/Meaning.antt proves them.
use Rattle.std.specs.Prelude.{◌≡◌, ◌↔◌, true, false, List, ℕ, suc, ◌<◌, T, set, replicate, Float}
use Rattle.std.specs.Float.Ieee.{neg, lt, le}
use Rattle.binary64.specs.Steps.{◌⊗◌, #, nought, decimal, is_finite}
use Rattle.dense.specs.Entries.{nth}
use Rattle.dense.specs.Factor.{Factor, found, refused, cholesky}
use Rattle.dense.specs.Solve.{solve}
use Rattle.problem.specs.Problem.{four}
use Rattle.whitening.specs.Whitened.{Chosen}
use Rattle.whitening.specs.Normal.{evaluated}
use Rattle.damped.specs.declared.Lm.{Lm}
use Rattle.damped.specs.declared.Verdict.TheVariants.{Converged, Stopped}
use Rattle.damped.specs.Damped.{damped_to, candidate, small, step, unfitted, plain, run}

-- ---- "the step below which it has converged (metres, on every parameter)", 1e-4

-- each of the four lies between -1e-4 and 1e-4, and is neither
abbrev pub Below : List Float → Type 0
Below x = (i : ℕ) → i < 4 → T (lt (neg (decimal 1 4)) (nth x i)) × T (lt (nth x i) (decimal 1 4))

-- a step is small exactly where it is so
abbrev pub SmallIsBelow : Type 0
SmallIsBelow = (x : List Float) → T (small x) ↔ Below x

-- by their bits: the last binary64 below 1e-4 is small on all parameters, and 1e-4 itself on none of them
abbrev pub SmallAtTolerance : Type 0
SmallAtTolerance =
    (small (replicate 4 (# 0x3F1A36E2EB1C432C)) ≡ true)
    × ((i : ℕ) → i < 4 → small (set (replicate 4 nought) i (# 0x3F1A36E2EB1C432D)) ≡ false)

-- ---- a step

-- by the factor l of an information: x with information x = - gradient
abbrev pub step_by : Lm → List Float → List Float
step_by s l = solve l 4 (four (λ i. neg (nth s.gradient i)))

-- the factor of a state's information, and of its information as lambda damps it
abbrev pub plain_factor : Lm → Factor
plain_factor s = cholesky s.information 4 (replicate 16 nought)

abbrev pub damped_factor : Lm → Factor
damped_factor s = cholesky (damped_to s.information s.lambda 4) 4 (replicate 16 nought)

-- over the receptions C, from the state s
module _ (C : Chosen) (s : Lm) where
  -- what the step by a factor costs
  abbrev pub cost_by : List Float → Float
  cost_by l = (evaluated C (candidate s.params (step_by s l))).cost

  -- it is taken: it costs a finite number, and no more than the state
  pub record Taken (l : List Float) : Type 0 where
    pub factors : damped_factor s ≡ found l
    pub finite : T (is_finite (cost_by l))
    pub no_more : T (le (cost_by l) s.cost)

-- a step ends the fit exactly where it is taken and below 1e-4 on every parameter
abbrev pub ConvergesBelow : Type 0
ConvergesBelow =
    (C : Chosen) (s : Lm) → ((step C s).verdict ≡ Converged) ↔ ((l : List Float) × Taken C s l × Below (step_by s l))

-- no further step is tried exactly where one was not taken and ten times lambda is above 1e12
abbrev pub StopsAbove : Type 0
StopsAbove =
    (C : Chosen) (s : Lm) → ((step C s).verdict ≡ Stopped)
    ↔ ((l : List Float) × (damped_factor s ≡ found l) × (Taken C s l → ⊥)
    × T (lt (decimal 1_000_000_000_000 0) (s.lambda ⊗ decimal 10 0)))

-- where the damped information has no factor there is no fit, whatever lambda is and however many steps are left
abbrev pub NoFactorNoFit : Type 0
NoFactorNoFit =
    (C : Chosen) (n : ℕ) (s : Lm) (l : List Float) → damped_factor s ≡ refused l → run C (suc n) s ≡ unfitted

-- ---- "Converged only if a plain Gauss-Newton step from here is below tolerance."

-- after the last step there is a fit exactly where the information, undamped, has a factor and the step by it is below
-- 1e-4 on every parameter
abbrev pub LastStepBelow : Type 0
LastStepBelow = (s : Lm) → T (plain s).ok ↔ ((l : List Float) × (plain_factor s ≡ found l) × Below (step_by s l))
