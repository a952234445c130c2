-- The four inputs of a solve: the refusal that they get, and the problem that they hold where they get none.
-- Definitions only.
use Rattle.std.specs.Prelude.{Bool, true, cond, ◌&&◌, List, [], ℕ, zero, suc, ◌+◌, ◌*◌, ◌-◌, ◌/◌, ◌%◌, leb, eqb, ℤ, pos}
use Rattle.std.specs.Prelude.{length, Float, Err}
use Rattle.std.proofs.Math.Option.{Option, none, some, get_or}
use Rattle.std.specs.Float.{binary64}
use Rattle.std.specs.Float.Ieee.{of_int}
use Rattle.binary64.specs.Steps.{◌⊕◌, ◌⊘◌, decimal, nought}
use Rattle.dense.specs.Entries.{nth}
use Rattle.geo.specs.Geo.{from_mm}
use Rattle.sets.specs.Sets.{most_receptions}
use Rattle.words.specs.Words.{u32_at, i32_at, i64_at, f64_at}
use Rattle.problem.specs.declared.Altitude.{Altitude}
use Rattle.problem.specs.declared.Altitude.TheVariants.{None, Barometric, Gnss}
use Rattle.problem.specs.declared.Problem.{Problem}
use Rattle.receptions.specs.declared.Reception.{Reception}
use Rattle.receptions.specs.Identities.{ascends}
use Rattle.receptions.specs.Receptions.{fill_to, floats, fields_of}
use Rattle.inputs.specs.declared.Fault.TheVariants.{TornInput, TooMany, Disorder, BadField, ClockSize, Uncovered}
use Rattle.inputs.specs.declared.Given.{Given}
use Rattle.inputs.specs.Faults.{Check, passed, or_else, unless, first_to}
use Rattle.inputs.specs.Domain.{is_zero, good_reception, good_entry, good_altitude}

-- the receptions (whether they came whole, how many, and each), and the bytes of clock.bin, altitude.bin and
-- reference.bin
pub record Inputs : Type 0 where
  pub whole : Bool
  pub n : ℕ
  pub at : ℕ → Reception
  pub clock : Option (List ℕ)
  pub altitude : Option (List ℕ)
  pub reference : Option (List ℕ)

-- an input that may be absent
abbrev pub if_there : Bool → List ℕ → Option (List ℕ)
if_there there bytes = cond there (some bytes) none

abbrev pub inputs_of : Bool → ℕ → (ℕ → Reception) → Given → List ℕ → List ℕ → List ℕ → Inputs
inputs_of whole n at g clock altitude reference =
    record {
      whole = whole;
      n = n;
      at = at;
      clock = if_there g.clock clock;
      altitude = if_there g.altitude altitude;
      reference = if_there g.reference reference;
    }

-- ---- what they are turned away for

abbrev pub sized : ℕ → Option (List ℕ) → Bool
sized size none = true
sized size (some bytes) = eqb (length bytes) size

-- 15: receptions not a multiple of 132 ("the torn-input test uses 132"), "altitude not 16, reference not 8 bytes"
unfoldable pub untorn : Inputs → Bool
untorn I = I.whole && (sized 16 I.altitude && sized 8 I.reference)

-- "receptions one by one, 12 before 11": reception i. 11 is "identity not above the one before", `ascends` that is
-- false
unfoldable pub check_reception : (ℕ → Reception) → ℕ → Check
check_reception at i =
    or_else (unless (good_reception (at i)) (BadField i)) (unless (ascends (λ k. (at k).id) i) (Disorder i))

-- "`clock.bin`: n × n f64, m²": the entry in row i and column j
unfoldable pub entry_at : List ℕ → ℕ → ℕ → ℕ → Float
entry_at bytes n i j = f64_at bytes (8 * (i * n + j))

-- the first k entries of row i from the diagonal on. "Clock entries left of the diagonal are never read."
unfoldable pub good_row_to : List ℕ → ℕ → ℕ → ℕ → Bool
good_row_to clock n i zero = true
good_row_to clock n i (suc k) = good_row_to clock n i k && good_entry i (i + k) (entry_at clock n i (i + k))

-- "clock entries by rows": row i
abbrev pub check_row : List ℕ → ℕ → ℕ → Check
check_row clock n i = unless (good_row_to clock n i (n - i)) (BadField (100 + i))

-- 13: "`clock.bin` present, not 8n² bytes"; then its entries
abbrev pub check_clock : Option (List ℕ) → ℕ → Check
check_clock none n = passed
check_clock (some clock) n = or_else (unless (eqb (length clock) (8 * (n * n))) ClockSize) (first_to (check_row clock n) n)

-- "`altitude.bin`: kind byte, seven zero bytes, metres f64". Document 02, Item 8: "Bytes 4 to 7 of `altitude.bin`
-- become an i32 in centimetres". The kind and the three zero bytes that are left are one u32, which is the kind.
abbrev pub kind_at : List ℕ → ℕ
kind_at altitude = u32_at altitude 0

abbrev pub correction_at : List ℕ → ℤ
correction_at altitude = i32_at altitude 4

abbrev pub metres_at : List ℕ → Float
metres_at altitude = f64_at altitude 8

-- "a value outside its rule is bad field 200"
abbrev pub check_altitude : Option (List ℕ) → Check
check_altitude none = passed
check_altitude (some altitude) =
    unless (good_altitude (kind_at altitude) (correction_at altitude) (metres_at altitude)) (BadField 200)

-- 7: "no clock covariance"
abbrev pub check_covered : Option (List ℕ) → Check
check_covered none = Err Uncovered
check_covered (some clock) = passed

-- "Order: 14, 15, 10; receptions one by one, 12 before 11; 13; clock entries by rows; altitude; then the Rust's order,
-- where 7 comes first." The output's 14 is the caller's.
unfoldable pub check_inputs : Inputs → Check
check_inputs I =
    or_else (unless (untorn I) TornInput)
    (or_else (unless (leb I.n most_receptions) TooMany)
    (or_else (first_to (check_reception I.at) I.n)
    (or_else (check_clock I.clock I.n) (or_else (check_altitude I.altitude) (check_covered I.clock)))))

-- ---- the problem

-- "Metres of a site come by `from_mm`.": of the first n receptions
abbrev pub metres_of : (ℕ → Reception) → ℕ → List Float
metres_of at n = fill_to (floats 96) (λ k. nth (from_mm (at (k / 3)).site_mm) (k % 3)) (3 * n)

-- entry k of the clock covariance, row by row: 0 left of the diagonal
unfoldable pub upper_at : List ℕ → ℕ → ℕ → Float
upper_at clock n k = cond (leb (k / n) (k % n)) (entry_at clock n (k / n) (k % n)) nought

-- Document 02, Item 8: "added to barometric metres by one division by 100 and one addition"; "A correction of 0 is not
-- added at all"
unfoldable pub corrected : Float → ℤ → Float
corrected metres correction = cond (is_zero correction) metres (metres ⊕ of_int binary64 correction ⊘ decimal 100 0)

-- the altitude that is solved with
abbrev pub altitude_of : Option (List ℕ) → Altitude
altitude_of none = None
altitude_of (some altitude) =
    let metres = metres_at altitude in
    cond (eqb (kind_at altitude) 1) (Barometric (corrected metres (correction_at altitude))) (Gnss metres)

-- "The fix shows the metres as given."
abbrev pub shown_of : Option (List ℕ) → Altitude
shown_of none = None
shown_of (some altitude) =
    let metres = metres_at altitude in cond (eqb (kind_at altitude) 1) (Barometric metres) (Gnss metres)

-- "absent means 0"
abbrev pub reference_of : Option (List ℕ) → ℤ
reference_of none = pos 0
reference_of (some reference) = i64_at reference 0

-- where nothing turns them away
unfoldable pub problem_of : Inputs → Problem
problem_of I =
    let n = I.n in let f = fields_of I.at n in
    record {
      n = n;
      time = f.time;
      site_mm = f.site_mm;
      site = metres_of I.at n;
      z = f.z;
      noise_m2 = f.noise_m2;
      clock_m2 = fill_to (floats 1024) (upper_at (get_or I.clock []) n) (n * n);
      altitude = altitude_of I.altitude;
      reference_ps = reference_of I.reference;
      shown = shown_of I.altitude;
    }
