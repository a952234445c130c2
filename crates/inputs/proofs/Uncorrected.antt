-- With a correction of 0 the altitude is document 01's: the statement of specs/Uncorrected.antt. The correction is the upper half of the u64 that
-- document 01 reads at 0 (`read-parts`), so the lower half is that u64 where the correction is 0. Assumes nothing.
use Prim.Native.Nat.{ℕ, suc, ◌+◌, ◌*◌, ◌-◌, ◌≤◌, ◌^◌}
use mathlib.Core.Path.{◌≡◌, refl, ap, ap₂}
use mathlib.Core.Bool.{Bool, true, false, ◌&&◌, ◌||◌}
use mathlib.Core.List.{List}
use mathlib.Core.Option.{Option, none, some}
use native.Mathlib.Omega.{arith}
use borrow.Author.Tests.{eqb-true}
use lib.Dec.{eqb, leb, ltb}
use lib.IntN.{pos, negsuc}
use lib.Ieee.{Float}
use mir.Syntax.{w32}
use mir.Val.{to_z, sel}
use Rattle.words.specs.Words.{u32_at, u64_at, i32_at, f64_at}
use Rattle.words.proofs.Halves.{read-parts}
use Rattle.problem.specs.declared.Altitude.{Altitude}
use Rattle.inputs.specs.declared.Fault.TheVariants.{TornInput, TooMany, BadField}
use Rattle.inputs.specs.Faults.{Check, passed, or_else, unless, first_to}
use Rattle.inputs.specs.Domain.{good_metres, good_altitude}
use Rattle.inputs.specs.Inputs.{Inputs, untorn, check_reception, check_clock, check_altitude, check_covered, check_inputs, kind_at, correction_at}
use Rattle.inputs.specs.Inputs.{metres_at, corrected, altitude_of, shown_of, problem_of}
use Rattle.inputs.specs.Uncorrected.{old_good, old_check, old_altitude, old_check_inputs, old_problem, Uncorrected, OldFormStays}
use Rattle.inputs.proofs.Order.{both_of, good_of}

-- ---- the bytes

halves : (a : List ℕ) → u64_at a 0 ≡ u32_at a 0 + 4294967296 * u32_at a 4
unfolding u64_at u32_at
halves a = read-parts 4 4 a 0

-- bits that read as 0 are 0
no_bits : (x : ℕ) → to_z w32 x ≡ pos 0 → x ≡ 0
no_bits x = go (ltb x (2 ^ 31))
  where
    go : (b : Bool) → sel b (pos x) (negsuc (2 ^ 32 - suc x)) ≡ pos 0 → x ≡ 0
    go true e = let z : x ≡ 0 = cc in z
    go false e = absurd (let z : ◌≡◌ {A = ℕ} 0 1 = cc in omega arith)

module _ (a : List ℕ) where
  upper : correction_at a ≡ pos 0 → u32_at a 4 ≡ 0
  unfolding i32_at
  upper e = no_bits (u32_at a 4) e

  same_kind : correction_at a ≡ pos 0 → kind_at a ≡ u64_at a 0
  same_kind e = let u = upper e in let h = halves a in omega arith

  -- the other way: a u64 of 1 or 2 has nothing in its upper half
  no-correction : u64_at a 0 ≤ 2 → correction_at a ≡ pos 0
  unfolding i32_at
  no-correction l = let h = halves a in let z : u32_at a 4 ≡ 0 = omega arith in ap (to_z w32) z

-- ---- the test and the altitude
kinds : (a b g : Bool) → ((a && true) || (b && true)) && g ≡ (a || b) && g
kinds true b g = refl
kinds false true g = refl
kinds false false g = refl

same_good : (kind : ℕ) (metres : Float) → good_altitude kind (pos 0) metres ≡ old_good kind metres
unfolding good_altitude
same_good kind metres = kinds (eqb kind 1) (eqb kind 2) (good_metres metres)

same-metres : (metres : Float) → corrected metres (pos 0) ≡ metres
unfolding corrected
same-metres metres = refl

same_check : (alt : Option (List ℕ)) → Uncorrected alt → check_altitude alt ≡ old_check alt
same_check none u = refl
same_check (some a) u = rw (u, same_good (kind_at a) (metres_at a), same_kind a u)

same-altitude : (alt : Option (List ℕ)) → Uncorrected alt → altitude_of alt ≡ old_altitude alt
same-altitude none u = refl
same-altitude (some a) u = rw (u, same-metres (metres_at a), same_kind a u)

same-shown : (alt : Option (List ℕ)) → Uncorrected alt → shown_of alt ≡ old_altitude alt
same-shown none u = refl
same-shown (some a) u = rw (same_kind a u)

-- ---- the statement
module _ (I : Inputs) (u : Uncorrected I.altitude) where
  check-stays : check_inputs I ≡ old_check_inputs I
  unfolding check_inputs
  check-stays =
      ap (λ (c : Check). or_else (unless (untorn I) TornInput) (or_else (unless (leb I.n 32) TooMany)
      (or_else (first_to (check_reception I.at) I.n) (or_else (check_clock I.clock I.n) (or_else c (check_covered I.clock))))))
      (same_check I.altitude u)

  problem-stays : problem_of I ≡ old_problem I
  unfolding problem_of
  problem-stays =
      ap₂ (λ (x y : Altitude). record {
        n = (problem_of I).n;
        time = (problem_of I).time;
        site_mm = (problem_of I).site_mm;
        site = (problem_of I).site;
        z = (problem_of I).z;
        noise_m2 = (problem_of I).noise_m2;
        clock_m2 = (problem_of I).clock_m2;
        altitude = x;
        reference_ps = (problem_of I).reference_ps;
        shown = y;
      }) (same-altitude I.altitude u) (same-shown I.altitude u)

one-or-two : (k : ℕ) (g : Bool) → (eqb k 1 || eqb k 2) && g ≡ true → k ≤ 2
one-or-two k g e = go (eqb k 1) (eqb k 2) (eqb-true k 1) (eqb-true k 2) (both_of (eqb k 1 || eqb k 2) g e).0
  where
    go : (a b : Bool) → (a ≡ true → k ≡ 1) → (b ≡ true → k ≡ 2) → a || b ≡ true → k ≤ 2
    go true b p q t = omega (arith, p refl)
    go false true p q t = omega (arith, q refl)
    go false false p q t = absurd (let z : ◌≡◌ {A = ℕ} 0 1 = cc in omega arith)

all-uncorrected : (alt : Option (List ℕ)) → old_check alt ≡ passed → Uncorrected alt
all-uncorrected none e = tt
all-uncorrected (some a) e = no-correction a (one-or-two (u64_at a 0) (good_metres (f64_at a 8))
    (good_of (old_good (u64_at a 0) (f64_at a 8)) (BadField 200) e))

pub old-form-stays : OldFormStays
old-form-stays = record { check = check-stays; problem = problem-stays; all = all-uncorrected }
