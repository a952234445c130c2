-- What a caller gets who asks why: the answer, its detail, and the states in the lent buffer. Definitions only.
use Rattle.std.specs.Prelude.{cond, List, ℕ, ltb, length, Ok, Err}
use Rattle.refusals.specs.Refusals.{short_output}
use Rattle.problem.specs.declared.Problem.{Problem}
use Rattle.inputs.specs.Faults.{Check, number_of, detail_of}
use Rattle.inputs.specs.Inputs.{Inputs, check_inputs, problem_of}
use Rattle.record.specs.declared.content.Fix.{Fix}
use Rattle.rounds.specs.Setting.{Answer, fix, refused, no_fixed_point}
use Rattle.rounds.specs.Solve.{number, detail, solve_problem}
use Rattle.why.specs.declared.Verdict.{Verdict}
use Rattle.why.specs.States.{state_of, states_to}

-- ---- of a problem and its answer

abbrev pub verdict_of : Answer Fix → Verdict
verdict_of a = record { number = number a; detail = detail a }

-- "for every reception of a solved problem". "A refused problem gets its refusal and no states."
abbrev pub states_of : Problem → Answer Fix → List ℕ → List ℕ
states_of P (fix x) out = states_to out (state_of P x) P.n
states_of P (refused why) out = out
states_of P no_fixed_point out = out

-- ---- of the inputs, once they are checked

abbrev pub verdict_by : Check → Inputs → Verdict
verdict_by (Err fault) I = record { number = number_of fault; detail = detail_of fault }
verdict_by (Ok _) I = verdict_of (solve_problem (problem_of I))

abbrev pub states_by : Check → Inputs → List ℕ → List ℕ
states_by (Err fault) I out = out
states_by (Ok _) I out = states_of (problem_of I) (solve_problem (problem_of I)) out

unfoldable pub verdict : Inputs → Verdict
verdict I = verdict_by (check_inputs I) I

unfoldable pub states : Inputs → List ℕ → List ℕ
states I out = states_by (check_inputs I) I out

-- ---- what the caller gets who lends `out`. "A buffer under 640 bytes is 14, tested first."

abbrev pub answer : Inputs → List ℕ → ℕ
answer I out = cond (ltb (length out) 640) short_output (verdict I).number

-- where the detail goes: for 14 it stays as found
abbrev pub detail_after : Inputs → List ℕ → ℕ → ℕ
detail_after I out found = cond (ltb (length out) 640) found (verdict I).detail

abbrev pub output : Inputs → List ℕ → List ℕ
output I out = cond (ltb (length out) 640) out (states I out)
