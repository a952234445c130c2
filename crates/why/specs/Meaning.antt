-- What the states mean, in words that know nothing of their computation. Statements only: proofs/ proves each.
use Rattle.std.specs.Prelude.{◌≡◌, ◌↔◌, not, List, ℕ, ◌+◌, ◌*◌, ◌≤◌, ◌<◌, T, length, get_or, replicate}
use Rattle.std.specs.Float.Ieee.{lt}
use Rattle.sets.specs.Sets.{most_receptions}
use Rattle.screen.specs.Turns.{RemovedAt}
use Rattle.problem.specs.declared.Problem.{Problem}
use Rattle.inputs.specs.Inputs.{Inputs, problem_of}
use Rattle.record.specs.declared.content.Fix.{Fix}
use Rattle.record.specs.Record.{written}
use Rattle.record.specs.Record as shown
use Rattle.rounds.specs.Setting.{fix, five, kept}
use Rattle.rounds.specs.Solve.{solve_problem}
use Rattle.rounds.specs.Demand.{rounds, used_by}
use Rattle.entry.specs.declared.Reply.{Reply}
use Rattle.entry.specs.Reply.{reply}
use Rattle.why.specs.declared.State.{State}
use Rattle.why.specs.declared.State.TheVariants.{Used, Removed, LeftOut}
use Rattle.why.specs.States.{clashing, residual_at, state_of, number_of, rows_at, states_to}
use Rattle.why.specs.Why.{verdict, states}

-- ---- which state

-- what holds of reception j of the problem P with the fix x
module _ (P : Problem) (x : Fix) where
  pub data Holds (j : ℕ) : State → Type 0 where
    -- "used, with its normalised residual"
    used : T (used_by P x j) → Holds j (Used (residual_at P x j))
    -- "removed by the screen, with the turn of its removal (from 1) and its clash count in that turn"
    removed : (t c : ℕ) → RemovedAt P.n (clashing P) j t c → Holds j (Removed t c)
    -- "or left out, with a residual above 5": kept by the screen, and not used
    left_out :
        T (kept (rounds P) j) → T (not (used_by P x j)) → T (lt five (residual_at P x j))
        → Holds j (LeftOut (residual_at P x j))

-- "Each is given where the solve's own definition says so and nowhere else.": of every reception of a solved problem
-- the state that is given holds, and no other does
abbrev pub OneStateHolds : Type 0
OneStateHolds =
    (P : Problem) → P.n ≤ most_receptions → (x : Fix) → solve_problem P ≡ fix x → (j : ℕ) → j < P.n
    → (s : State) → Holds P x j s ↔ (s ≡ state_of P x j)

-- ---- where it stands

-- the 20 bytes of a state by themselves
abbrev pub bytes_of : State → List ℕ
bytes_of s = written (replicate 20 0) (rows_at 0 s)

-- "in input order, 20 bytes each"; the bytes past the last state stay, and none comes or goes
pub record Stands (out : List ℕ) (state : ℕ → State) (k : ℕ) (after : List ℕ) : Type 0 where
  pub sized : length after ≡ length out
  pub told : (j i : ℕ) → j < k → i < 20 → get_or after (20 * j + i) 0 ≡ get_or (bytes_of (state j)) i 0
  pub past : (b : ℕ) → 20 * k ≤ b → get_or after b 0 ≡ get_or out b 0

abbrev pub StatesStandInOrder : Type 0
StatesStandInOrder =
    (out : List ℕ) (state : ℕ → State) (k : ℕ) → 20 * k ≤ length out → Stands out state k (states_to out state k)

-- ---- agreement with the solve of the same inputs

-- what is told of the inputs I agrees with the reply r of a solve
pub data Agrees (I : Inputs) (r : Reply) : Type 0 where
  -- a fix: the detail is its dof, and used are those of its mask, as its record shows both
  with_fix :
      (x : Fix) → verdict I ≡ record { number = 0; detail = x.dof }
      → r ≡ record { number = 0; bytes = shown.fix I.n (problem_of I).shown x }
      → ((out : List ℕ) → states I out ≡ states_to out (state_of (problem_of I) x) (problem_of I).n)
      → ((j : ℕ) → (number_of (state_of (problem_of I) x j) ≡ 1) ↔ T (used_by (problem_of I) x j)) → Agrees I r
  -- a refusal: number and detail are the record's. "A refused problem gets its refusal and no states. Then the buffer
  -- stays as found"
  with_refusal :
      (number detail : ℕ) → 0 < number → verdict I ≡ record { number = number; detail = detail }
      → r ≡ record { number = number; bytes = shown.refusal number detail I.n }
      → ((out : List ℕ) → states I out ≡ out) → Agrees I r

abbrev pub AgreesWithSolve : Type 0
AgreesWithSolve = (I : Inputs) → Agrees I (reply I)
