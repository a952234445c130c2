-- What a solve answers to its four inputs, the bytes that it leaves in the lent output, and what it promises of both.
-- Definitions and statements only.
use Rattle.std.specs.Prelude.{ℕ, ◌/◌, ◌%◌, ◌≤◌, ◌≡◌, true, cond, List, eqb, ltb, length, take, Ok, Err}
use Rattle.refusals.specs.Refusals.{short_output}
use Rattle.sets.specs.Mask.{has}
use Rattle.problem.specs.declared.Altitude.{Altitude}
use Rattle.problem.specs.declared.Problem.{Problem}
use Rattle.receptions.specs.declared.Reception.{Reception}
use Rattle.receptions.specs.Receptions.{reception_bytes, reception_at, listed_at}
use Rattle.inputs.specs.declared.Given.{Given}
use Rattle.inputs.specs.declared.Fault.{Fault}
use Rattle.inputs.specs.Faults.{Check, passed, number_of, detail_of}
use Rattle.inputs.specs.Inputs.{Inputs, inputs_of, check_inputs, problem_of}
use Rattle.rounds.specs.Setting.{Answer, fix, refused, no_fixed_point}
use Rattle.rounds.specs.Solve.{number, detail, solve_problem}
use Rattle.rounds.specs.Demand.{rounds, remaining, Claim, Demand}
use Rattle.record.specs.declared.content.Fix.{Fix}
use Rattle.record.specs.Record.{refusal, stored, record_bytes}
use Rattle.record.specs.Record as shown
use Rattle.reader.specs.Stands.{Stands}
use Rattle.entry.specs.declared.Reply.{Reply}

-- ---- the inputs, as a caller lends them

-- of `present` bit 0 says that there is a clock covariance, bit 1 an altitude and bit 2 a reference. Further bits mean
-- nothing.
abbrev pub given : ℕ → Given
given present = record { clock = has present 0; altitude = has present 1; reference = has present 2 }

-- the bytes of receptions.bin, clock.bin, altitude.bin and reference.bin. Absent receptions are empty ones.
abbrev pub lent : List ℕ → List ℕ → List ℕ → List ℕ → ℕ → Inputs
lent receptions clock altitude reference present =
    inputs_of (eqb (length receptions % reception_bytes) 0) (length receptions / reception_bytes) (reception_at receptions)
    (given present) clock altitude reference

-- "the caller's own list of reception records" in place of receptions.bin
abbrev pub listed : List Reception → List ℕ → List ℕ → List ℕ → ℕ → Inputs
listed receptions clock altitude reference present =
    inputs_of true (length receptions) (listed_at receptions) (given present) clock altitude reference

-- ---- the reply: document 01's answer number, and the 176 bytes

-- the record of an answer to a problem of n receptions that shows this altitude
abbrev pub record_of : ℕ → Altitude → Answer Fix → List ℕ
record_of n altitude (fix x) = shown.fix n altitude x
record_of n altitude (refused why) = refusal (number (refused why)) (detail (refused why)) n
record_of n altitude no_fixed_point = refusal (number no_fixed_point) (detail no_fixed_point) n

abbrev pub answered : ℕ → Altitude → Answer Fix → Reply
answered n altitude a = record { number = number a; bytes = record_of n altitude a }

abbrev pub turned_away : Fault → ℕ → Reply
turned_away fault n = record { number = number_of fault; bytes = refusal (number_of fault) (detail_of fault) n }

abbrev pub replied : Check → Inputs → Reply
replied (Err fault) I = turned_away fault I.n
replied (Ok _) I = answered I.n (problem_of I).shown (solve_problem (problem_of I))

unfoldable pub reply : Inputs → Reply
reply I = replied (check_inputs I) I

-- ---- what the caller gets who lends `out`

-- 14: "under 176 bytes lent"
abbrev pub answer : Inputs → List ℕ → ℕ
answer I out = cond (ltb (length out) record_bytes) short_output (reply I).number

-- the output afterwards: for 14 nothing is written
abbrev pub output : Inputs → List ℕ → List ℕ
output I out = cond (ltb (length out) record_bytes) out (stored out (reply I).bytes)

-- Demand 3, of the bytes that are written: they are the record of an answer that meets it, and no other answer meets
-- its claim. Of a fix, each value that `Found` speaks of stands at its place among them.
pub record Demanded (P : Problem) (out : List ℕ) : Type 0 where
  pub answer : Answer Fix
  pub demand : Demand P answer
  pub written : take record_bytes out ≡ record_of P.n P.shown answer
  pub shows : (x : Fix) → answer ≡ fix x → Stands (take record_bytes out) P.n P.shown x
  pub alone : (other : Answer Fix) → Claim (rounds P) (remaining P) other → other ≡ answer

-- What a solve of the inputs I promises a caller who lends `out`: of the number r that it gives, and of `after`, which
-- `out` then holds. It is the promise of `mlat_solve`, for every input.
pub record Promise (I : Inputs) (out : List ℕ) (r : ℕ) (after : List ℕ) : Type 0 where
  pub answer : r ≡ answer I out
  pub output : after ≡ output I out
  pub demand : check_inputs I ≡ passed → record_bytes ≤ length out → Demanded (problem_of I) after
