-- What is told of inputs agrees with the reply of their solve: the statement of specs/Meaning.antt, by the checks' outcome and the answer.
-- Assumes nothing.
use Rattle.std.proofs.Common.{Ok, Err}
use mathlib.Core.Path.{◌≡◌, refl, ap, ◌∙◌}
use mathlib.Core.Logic.{◌↔◌}
use mathlib.Core.Bool.{Bool, true, false, cond}
use mathlib.Core.List.{List}
use Prim.Native.Nat.{ℕ, ◌<◌}
use native.Mathlib.Omega.{arith}
use lib.Dec.{T, ltb}
use lib.Ieee.{Float}
use Rattle.screen.specs.Turns.{turn_of, clash_of}
use Rattle.problem.specs.declared.Problem.{Problem}
use Rattle.inputs.specs.Faults.{Check, passed}
use Rattle.inputs.specs.declared.Fault.{Fault}
use Rattle.inputs.specs.declared.Fault.TheVariants.{TornInput, TooMany, Disorder, BadField, ClockSize, Uncovered}
use Rattle.inputs.specs.Faults as faults
use Rattle.inputs.specs.Inputs.{Inputs, check_inputs, problem_of}
use Rattle.record.specs.declared.content.Fix.{Fix}
use Rattle.rounds.specs.declared.answer.Refusal.{Refusal}
use Rattle.rounds.specs.declared.answer.Refusal.TheVariants.{TooFew, NoConvergence, OutOfRange, NoFixedPoint, Inconsistent, Singular, Ambiguous}
use Rattle.rounds.specs.declared.answer.Refusal.TheVariants.{Uncertain}
use Rattle.rounds.specs.Setting.{Answer, fix, refused, no_fixed_point}
use Rattle.rounds.specs.Solve.{refusal_number, refusal_detail, solve_problem}
use Rattle.rounds.specs.Demand.{used_by}
use Rattle.entry.specs.Reply.{answered, replied, reply}
use Rattle.why.specs.declared.State.TheVariants.{Used, Removed, LeftOut}
use Rattle.why.specs.States.{clashing, residual_at, state_of, number_of}
use Rattle.why.specs.Why.{verdict_of, states_of, verdict_by, states_by, verdict, states}
use Rattle.why.specs.Meaning.{Agrees, with_fix, with_refusal, AgreesWithSolve}

-- no refusal is 0
fault-above : (fault : Fault) → 0 < faults.number_of fault
fault-above TornInput = omega arith
fault-above TooMany = omega arith
fault-above (Disorder i) = omega arith
fault-above (BadField place) = omega arith
fault-above ClockSize = omega arith
fault-above Uncovered = omega arith

refusal-above : (why : Refusal) → 0 < refusal_number why
refusal-above (TooFew included) = omega arith
refusal-above NoConvergence = omega arith
refusal-above OutOfRange = omega arith
refusal-above NoFixedPoint = omega arith
refusal-above Inconsistent = omega arith
refusal-above Singular = omega arith
refusal-above Ambiguous = omega arith
refusal-above Uncertain = omega arith

-- the state of number 1 is that of a used reception
used-is : (u r : Bool) (t c : ℕ) (z : Float) → (number_of (cond u (Used z) (cond r (Removed t c) (LeftOut z))) ≡ 1) ↔ T u
used-is true r t c z = (λ e. tt, λ h. refl)
used-is false true t c z = (λ e. absurd (omega arith), λ h. absurd h)
used-is false false t c z = (λ e. absurd (omega arith), λ h. absurd h)

by_mask : (P : Problem) (x : Fix) (j : ℕ) → (number_of (state_of P x j) ≡ 1) ↔ T (used_by P x j)
unfolding state_of
by_mask P x j =
    let turn = turn_of P.n (clashing P) j in
    used-is (used_by P x j) (ltb 0 turn) turn (clash_of P.n (clashing P) j) (residual_at P x j)

module _ (I : Inputs) where
  verdict-at : (c : Check) → check_inputs I ≡ c → verdict I ≡ verdict_by c I
  unfolding verdict
  verdict-at c e = ap (λ (k : Check). verdict_by k I) e

  reply-at : (c : Check) → check_inputs I ≡ c → reply I ≡ replied c I
  unfolding reply
  reply-at c e = ap (λ (k : Check). replied k I) e

  states-at : (c : Check) → check_inputs I ≡ c → (out : List ℕ) → states I out ≡ states_by c I out
  unfolding states
  states-at c e out = ap (λ (k : Check). states_by k I out) e

  module _ (e : check_inputs I ≡ passed) where
    verdict-of : (a : Answer Fix) → solve_problem (problem_of I) ≡ a → verdict I ≡ verdict_of a
    verdict-of a q = verdict-at passed e ∙ ap verdict_of q

    states-of : (a : Answer Fix) → solve_problem (problem_of I) ≡ a → (out : List ℕ) → states I out ≡ states_of (problem_of I) a out
    states-of a q out = states-at passed e out ∙ ap (λ (b : Answer Fix). states_of (problem_of I) b out) q

    by_answer : (a : Answer Fix) → solve_problem (problem_of I) ≡ a → Agrees I (reply I)
    by_answer (fix x) q =
        with_fix x (verdict-of (fix x) q) (reply-at passed e ∙ ap (answered I.n (problem_of I).shown) q) (states-of (fix x) q)
        (by_mask (problem_of I) x)
    by_answer (refused why) q =
        with_refusal (refusal_number why) (refusal_detail why) (refusal-above why) (verdict-of (refused why) q)
        (reply-at passed e ∙ ap (answered I.n (problem_of I).shown) q) (states-of (refused why) q)
    by_answer no_fixed_point q =
        with_refusal 4 0 (omega arith) (verdict-of no_fixed_point q)
        (reply-at passed e ∙ ap (answered I.n (problem_of I).shown) q) (states-of no_fixed_point q)

  by-check : (c : Check) → check_inputs I ≡ c → Agrees I (reply I)
  by-check (Err fault) e =
      with_refusal (faults.number_of fault) (faults.detail_of fault) (fault-above fault) (verdict-at (Err fault) e) (reply-at (Err fault) e)
      (states-at (Err fault) e)
  by-check (Ok _) e = by_answer e (solve_problem (problem_of I)) refl

pub agrees-with-solve : AgreesWithSolve
agrees-with-solve I = by-check I (check_inputs I) refl
