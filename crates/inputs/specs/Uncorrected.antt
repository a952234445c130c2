-- Document 02, Item 8: "A correction of 0 is not added at all, since -0 metres would change, and with it each old
-- answer stays." Document 01's form of altitude.bin, and that it is today's where the correction is 0. Definitions and
-- a statement only: proofs/Uncorrected.antt proves it.
use Rattle.std.specs.Prelude.{◌≡◌, Bool, cond, ◌&&◌, ◌||◌, List, ℕ, eqb, leb, pos, Float}
use Rattle.std.proofs.Math.Option.{Option, none, some}
use Rattle.sets.specs.Sets.{most_receptions}
use Rattle.words.specs.Words.{u64_at, f64_at}
use Rattle.problem.specs.declared.Altitude.{Altitude}
use Rattle.problem.specs.declared.Altitude.TheVariants.{None, Barometric, Gnss}
use Rattle.problem.specs.declared.Problem.{Problem}
use Rattle.inputs.specs.declared.Fault.TheVariants.{TornInput, TooMany, BadField}
use Rattle.inputs.specs.Faults.{Check, passed, or_else, unless, first_to}
use Rattle.inputs.specs.Domain.{good_metres}
use Rattle.inputs.specs.Inputs.{Inputs, untorn, check_reception, check_clock, check_covered, check_inputs}
use Rattle.inputs.specs.Inputs.{correction_at, problem_of}

-- ---- document 01's form

-- "altitude kind 1 or 2, metres within ±100,000"
abbrev pub old_good : ℕ → Float → Bool
old_good kind metres = (eqb kind 1 || eqb kind 2) && good_metres metres

-- "`altitude.bin`: kind byte, seven zero bytes, metres f64". Kind and zero bytes are one u64, which is the kind.
abbrev pub old_check : Option (List ℕ) → Check
old_check none = passed
old_check (some altitude) = unless (old_good (u64_at altitude 0) (f64_at altitude 8)) (BadField 200)

-- "Altitude goes in as given, for both kinds"
abbrev pub old_altitude : Option (List ℕ) → Altitude
old_altitude none = None
old_altitude (some altitude) =
    let metres = f64_at altitude 8 in cond (eqb (u64_at altitude 0) 1) (Barometric metres) (Gnss metres)

-- the refusal of the four inputs, and their problem: its one altitude is solved with and shown
abbrev pub old_check_inputs : Inputs → Check
old_check_inputs I =
    or_else (unless (untorn I) TornInput)
    (or_else (unless (leb I.n most_receptions) TooMany)
    (or_else (first_to (check_reception I.at) I.n)
    (or_else (check_clock I.clock I.n) (or_else (old_check I.altitude) (check_covered I.clock)))))

abbrev pub old_problem : Inputs → Problem
old_problem I =
    let P = problem_of I in
    record {
      n = P.n;
      time = P.time;
      site_mm = P.site_mm;
      site = P.site;
      z = P.z;
      noise_m2 = P.noise_m2;
      clock_m2 = P.clock_m2;
      altitude = old_altitude I.altitude;
      reference_ps = P.reference_ps;
      shown = old_altitude I.altitude;
    }

-- ---- what stays

-- no altitude, or a correction of 0
abbrev pub Uncorrected : Option (List ℕ) → Type 0
Uncorrected none = Unit {0}
Uncorrected (some altitude) = correction_at altitude ≡ pos 0

pub record OldFormStays : Type 0 where
  -- a correction of 0 changes nothing
  pub check : (I : Inputs) → Uncorrected I.altitude → check_inputs I ≡ old_check_inputs I
  pub problem : (I : Inputs) → Uncorrected I.altitude → problem_of I ≡ old_problem I
  -- and whatever passed by document 01 has one
  pub all : (altitude : Option (List ℕ)) → old_check altitude ≡ passed → Uncorrected altitude
