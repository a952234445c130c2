-- What the inputs are turned away for. Document 01, 'When there is no fix': number and detail of each, and checks in
-- order. Definitions only.
use Rattle.std.specs.Prelude.{Bool, cond, ℕ, zero, suc, Result, Ok, Err, ⊤}
use Rattle.refusals.specs.Refusals as refusals
use Rattle.inputs.specs.declared.Fault.{Fault}
use Rattle.inputs.specs.declared.Fault.TheVariants.{TornInput, TooMany, Disorder, BadField, ClockSize, Uncovered}

-- the column 'No.'
abbrev pub number_of : Fault → ℕ
number_of Uncovered = refusals.uncovered
number_of TooMany = refusals.too_many
number_of (Disorder i) = refusals.disorder
number_of (BadField place) = refusals.bad_field
number_of ClockSize = refusals.clock_size
number_of TornInput = refusals.torn_input

-- the column 'Detail'
abbrev pub detail_of : Fault → ℕ
detail_of Uncovered = 0
detail_of TooMany = 0
detail_of (Disorder i) = i
detail_of (BadField place) = place
detail_of ClockSize = 0
detail_of TornInput = 0

-- passed, or the fault for which the inputs are turned away
abbrev pub Check : Type 0
Check = Result ⊤ Fault

abbrev pub passed : Check
passed = Ok tt

-- the first of two checks that refuses
abbrev pub or_else : Check → Check → Check
or_else (Ok done) later = later
or_else (Err fault) later = Err fault

abbrev pub unless : Bool → Fault → Check
unless good fault = cond good passed (Err fault)

-- the first that refuses of the checks 0 to k - 1
unfoldable pub first_to : (ℕ → Check) → ℕ → Check
first_to check zero = passed
first_to check (suc k) = or_else (first_to check k) (check k)
