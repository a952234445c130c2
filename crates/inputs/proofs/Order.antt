-- The order of the checks: which refusal comes first, and what it says that none comes. Assumes nothing.
use Rattle.std.proofs.Common.{Ok, Err}
use Prim.Native.Nat.{ℕ, zero, suc, ◌*◌, ◌<◌, ◌≤◌}
use mathlib.Core.Path.{◌≡◌, refl}
use mathlib.Core.Bool.{Bool, true, false, ◌&&◌}
use mathlib.Core.Logic.{◌⊎◌, inl, inr}
use mathlib.Core.List.{List, []}
use mathlib.Core.Option.{get_or}
use native.Mathlib.Omega.{arith}
use native.Mathlib.Nat.{eq-or-lt_of_le}
use borrow.Author.Tests.{eqb-true, leb-true}
use lib.Dec.{eqb, leb}
use lib.ListN.{length}
use Rattle.inputs.specs.declared.Fault.{Fault}
use Rattle.inputs.specs.declared.Fault.TheVariants.{TornInput, TooMany, ClockSize, Uncovered}
use Rattle.inputs.specs.Faults.{Check, passed, or_else, unless, first_to}
use Rattle.inputs.specs.Inputs.{Inputs, if_there, sized, untorn, check_reception, check_row, check_clock, check_altitude, check_covered, check_inputs}

pub both_of : (a b : Bool) → a && b ≡ true → (a ≡ true) × (b ≡ true)
both_of true true e = (refl, refl)
both_of true false e = (refl, e)
both_of false b e = absurd (let z : ◌≡◌ {A = ℕ} 0 1 = cc in omega arith)

pub good_of : (b : Bool) (fault : Fault) → unless b fault ≡ passed → b ≡ true
good_of true fault e = refl
good_of false fault e = absurd (let z : ◌≡◌ {A = ℕ} 0 1 = cc in omega arith)

pub or-of : (x y : Check) → or_else x y ≡ passed → (x ≡ passed) × (y ≡ passed)
or-of (Ok done) y e = (refl, e)
or-of (Err fault) y e = absurd (let z : ◌≡◌ {A = ℕ} 0 1 = cc in omega arith)

pub covered-by : (there : Bool) (b : List ℕ) → unless there Uncovered ≡ check_covered (if_there there b)
covered-by true b = refl
covered-by false b = refl

module _ (I : Inputs) where
  -- what comes after 15 and 10
  abbrev later : Check
  later = or_else (first_to (check_reception I.at) I.n)
      (or_else (check_clock I.clock I.n) (or_else (check_altitude I.altitude) (check_covered I.clock)))

  -- the first check that refuses is the outcome
  abbrev Refuses : Check → Type 0
  Refuses check = (fault : Fault) → check ≡ Err fault → Err fault ≡ check_inputs I

  pub refuses-torn : Refuses (unless (untorn I) TornInput)
  unfolding check_inputs
  refuses-torn fault e = rw e

  module _ (whole : unless (untorn I) TornInput ≡ passed) where
    pub sized-altitude : sized 16 I.altitude ≡ true
    unfolding untorn
    sized-altitude =
        (both_of (sized 16 I.altitude) (sized 8 I.reference)
        (both_of I.whole (sized 16 I.altitude && sized 8 I.reference) (good_of _ TornInput whole)).1).0

    pub refuses-many : Refuses (unless (leb I.n 32) TooMany)
    unfolding check_inputs
    refuses-many fault e = rw (whole, e)

    module _ (few : unless (leb I.n 32) TooMany ≡ passed) where
      pub refuses-reception : Refuses (first_to (check_reception I.at) I.n)
      unfolding check_inputs
      refuses-reception fault e = rw (whole, few, e)

      module _ (receptions : first_to (check_reception I.at) I.n ≡ passed) where
        pub refuses-clock : Refuses (check_clock I.clock I.n)
        unfolding check_inputs
        refuses-clock fault e = rw (whole, few, receptions, e)

        module _ (clock : check_clock I.clock I.n ≡ passed) where
          pub refuses-altitude : Refuses (check_altitude I.altitude)
          unfolding check_inputs
          refuses-altitude fault e = rw (whole, few, receptions, clock, e)

          pub refuses-uncovered : check_altitude I.altitude ≡ passed → check_covered I.clock ≡ check_inputs I
          unfolding check_inputs
          refuses-uncovered e = rw (whole, few, receptions, clock, e)

  module _ (e : check_inputs I ≡ passed) where
    after-torn : (unless (untorn I) TornInput ≡ passed) × (or_else (unless (leb I.n 32) TooMany) later ≡ passed)
    unfolding check_inputs
    after-torn = or-of (unless (untorn I) TornInput) (or_else (unless (leb I.n 32) TooMany) later) e

    after-many : (unless (leb I.n 32) TooMany ≡ passed) × (later ≡ passed)
    after-many = or-of (unless (leb I.n 32) TooMany) later after-torn.1

    pub few : I.n ≤ 32
    few = leb-true I.n 32 (good_of _ TooMany after-many.0)

    after-receptions : (first_to (check_reception I.at) I.n ≡ passed)
        × (or_else (check_clock I.clock I.n) (or_else (check_altitude I.altitude) (check_covered I.clock)) ≡ passed)
    after-receptions = or-of (first_to (check_reception I.at) I.n)
        (or_else (check_clock I.clock I.n) (or_else (check_altitude I.altitude) (check_covered I.clock))) after-many.1

    pub passed-receptions : first_to (check_reception I.at) I.n ≡ passed
    passed-receptions = after-receptions.0

    after-clock : (check_clock I.clock I.n ≡ passed) × (or_else (check_altitude I.altitude) (check_covered I.clock) ≡ passed)
    after-clock = or-of (check_clock I.clock I.n) (or_else (check_altitude I.altitude) (check_covered I.clock)) after-receptions.1

    pub passed-clock : check_clock I.clock I.n ≡ passed
    passed-clock = after-clock.0

    pub passed-altitude : check_altitude I.altitude ≡ passed
    passed-altitude = (or-of (check_altitude I.altitude) (check_covered I.clock) after-clock.1).0

    pub is-covered : check_covered I.clock ≡ passed
    is-covered = (or-of (check_altitude I.altitude) (check_covered I.clock) after-clock.1).1

    parts : (I.whole ≡ true) × (sized 16 I.altitude && sized 8 I.reference ≡ true)
    unfolding untorn
    parts = both_of I.whole (sized 16 I.altitude && sized 8 I.reference) (good_of _ TornInput after-torn.0)

    pub is_whole : I.whole ≡ true
    is_whole = parts.0

    pub whole-altitude : sized 16 I.altitude ≡ true
    whole-altitude = (both_of (sized 16 I.altitude) (sized 8 I.reference) parts.1).0

    pub whole-reference : sized 8 I.reference ≡ true
    whole-reference = (both_of (sized 16 I.altitude) (sized 8 I.reference) parts.1).1

-- a clock that is there has its size, and its rows pass
pub clock-of
    : (there : Bool) (b : List ℕ) (n : ℕ) → check_clock (if_there there b) n ≡ passed → check_covered (if_there there b) ≡ passed
    → (get_or (if_there there b) [] ≡ b) × (length b ≡ 8 * (n * n)) × (first_to (check_row b n) n ≡ passed)
clock-of true b n e f =
    let p = or-of (unless (eqb (length b) (8 * (n * n))) ClockSize) (first_to (check_row b n) n) e in
    (refl, eqb-true (length b) (8 * (n * n)) (good_of _ ClockSize p.0), p.1)
clock-of false b n e f = absurd (let z : ◌≡◌ {A = ℕ} 0 1 = cc in omega arith)

-- each of the checks passes
pub first_of : (check : ℕ → Check) (k i : ℕ) → first_to check k ≡ passed → i < k → check i ≡ passed
unfolding first_to
first_of check zero i e h = absurd (omega arith)
first_of check (suc k) i e h =
    let p = or-of (first_to check k) (check k) e in
    go (eq-or-lt_of_le (let q : i ≤ k = omega arith in q)) p.1 (λ q. first_of check k i p.0 q)
  where
    go : (i ≡ k) ⊎ (i < k) → check k ≡ passed → (i < k → check i ≡ passed) → check i ≡ passed
    go (inl q) c f = rw q c
    go (inr q) c f = f q
