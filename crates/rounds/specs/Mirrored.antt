-- Document 02, item 7: "The covariance is symmetric", of every fix. Definitions and statements only:
-- proofs/Mirrors.antt proves them.
use Rattle.std.specs.Prelude.{◌≡◌, ℕ, List, [], ◌∷◌, ℤ, Float}
use Rattle.limits.specs.Mirrored.{Mirrored}
use Rattle.problem.specs.declared.Problem.{Problem}
use Rattle.damped.specs.declared.Fit.{Fit}
use Rattle.best.specs.Best.{gives}
use Rattle.record.specs.declared.content.Fix.{Fix}
use Rattle.rounds.specs.Setting.{fix}
use Rattle.rounds.specs.Finish.{finish}
use Rattle.rounds.specs.Solve.{solve_problem}

-- the covariance that a fix shows, by rows
abbrev pub covariance : Fix → List (List Float)
covariance x = x.r0 ∷ x.r1 ∷ x.r2 ∷ []

-- the mirrored entries of every fix that `finish` gives are equal to the bit
abbrev pub FinishMirrored : Type 0
FinishMirrored =
    (mask dof : ℕ) (reference : ℤ) (fit : Fit) (x : Fix)
    → finish mask dof reference fit ≡ gives x → Mirrored (covariance x)

-- and so are those of every fix of the solve
abbrev pub FixMirrored : Type 0
FixMirrored = (P : Problem) (x : Fix) → solve_problem P ≡ fix x → Mirrored (covariance x)
