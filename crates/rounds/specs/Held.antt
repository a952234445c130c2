-- What the rounds and the steps after them come to, as the code holds it. Nothing that must be believed cites it.
-- Definitions only.
use Rattle.std.specs.Prelude.{◌≡◌, ℕ, cond, List, ℤ, Float}
use Rattle.std.specs.Prelude as std
use Rattle.std.proofs.Math.Option.{Option, none, some}
use Rattle.dense.specs.Factor.{found}
use Rattle.sets.specs.Sets.{Subset, count}
use Rattle.sets.specs.Mask.{has}
use Rattle.damped.specs.declared.Fit.{Fit}
use Rattle.best.specs.Best.{Outcome, refuses, gives}
use Rattle.best.specs.OfProblem.{subset, subset_sites, subset_z, Receptions, whitener_over, chosen_over, best_fit_over}
use Rattle.best.specs.declared.Unfit.{Unfit}
use Rattle.best.specs.declared.BestAt.{BestAt}
use Rattle.best.specs.Held.{array_of, as_best_at, norm_at}
use Rattle.record.specs.declared.content.Fix.{Fix}
use Rattle.rounds.specs.Finish.{fits_i64}
use Rattle.rounds.specs.declared.fitting.Gathered.{Gathered}
use Rattle.rounds.specs.declared.fitting.State.{State}
use Rattle.rounds.specs.declared.outliers.Turn.{Turn}
use Rattle.rounds.specs.declared.outliers.Turn.TheVariants.{Changes, Settles}
use Rattle.rounds.specs.declared.round.Step as code
use Rattle.rounds.specs.Rounds.{Step, ends, changes, settles}
use Rattle.rounds.specs.declared.answer.Refusal.{Refusal}
use Rattle.rounds.specs.declared.answer.Refusal.TheVariants.{NoFixedPoint}
use Rattle.rounds.specs.Setting.{refused, Answer, fix, no_fixed_point}

-- a time where an i64 holds it
abbrev pub moment_of : ℤ → std.Option ℤ
moment_of ps = cond (fits_i64 ps) (std.Some ps) std.None

-- an outcome as the code holds it
abbrev pub as_result : {E X : Type 0} → Outcome E X → std.Result X E
as_result (refuses e) = std.Err e
as_result (gives x) = std.Ok x

-- what is gathered of the receptions S
abbrev pub gathered : List Float → List Float → ℕ → Subset → Gathered
gathered site z n S = record {
  k = count S n;
  index = subset n S;
  sites = subset_sites site n S;
  z = subset_z z n S;
}

-- the parameters that the round before found, if there was one
abbrev pub found_before : std.Option (List Float) → Option (List Float)
found_before std.None = none
found_before (std.Some p) = some p

abbrev pub previous_of : State → Option (List Float)
previous_of s = found_before s.previous

-- a step by the turn and the fit beside it, or by the refusal
abbrev pub step_of : std.Result Turn Refusal → Fit → Step Fit
step_of (std.Err why) f = ends why
step_of (std.Ok (Changes mask)) f = changes (has mask) f
step_of (std.Ok Settles) f = settles f

abbrev pub step_by : std.Result code.Step Refusal → Step Fit
step_by (std.Err why) = ends why
step_by (std.Ok s) = step_of (std.Ok s.turn) s.fit

-- an answer as the code holds it: there no fixed point is one refusal more
abbrev pub as_answer : Answer Fix → std.Result Fix Refusal
as_answer (fix x) = std.Ok x
as_answer (refused why) = std.Err why
as_answer no_fixed_point = std.Err NoFixedPoint

-- the best fit over S, beside its place and its rounding norm, or why there is none
abbrev pub held_over : Receptions → Subset → Option (List Float) → std.Result BestAt Unfit
held_over R S previous = as_best_at (chosen_over R S (array_of (whitener_over R S))) (best_fit_over R S previous)

-- the rounding norm of a fit of the receptions S, by the factor that whitens them
abbrev pub NormOf : Receptions → Subset → Fit → Float → Type 0
NormOf R S fit norm =
    (l : List Float) × (whitener_over R S ≡ found l) × (norm ≡ norm_at (chosen_over R S l) fit.params)
