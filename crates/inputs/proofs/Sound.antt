-- A problem that was read is in the domain: each of its fields passed its test. Assumes nothing.
use Prim.Native.Nat.{ℕ, zero, suc, ◌+◌, ◌*◌, ◌-◌, ◌/◌, ◌%◌, ◌<◌, ◌≤◌}
use mathlib.Core.Path.{◌≡◌, refl, ap₂, sym, subst}
use mathlib.Core.Bool.{Bool, true, false, cond, ◌&&◌, ◌||◌}
use mathlib.Core.Logic.{◌⊎◌, inl, inr}
use mathlib.Core.List.{List, []}
use mathlib.Core.Option
use mathlib.Core.Option.{Option, none, some}
use native.Mathlib.Omega.{arith}
use native.Mathlib.Nat.{eq-or-lt_of_le}
use borrow.Author.Tests.{le-leb}
use lib.Arith.{digits_div, digits_mod}
use lib.Dec.{eqb}
use lib.IntN.{ℤ, pos}
use lib.ListN.{get_or, length, length-replicate}
use lib.Ieee.{Float, nan}
use Rattle.dense.specs.Entries.{at}
use Rattle.dense.proofs.Places.{place, room}
use Rattle.problem.specs.declared.Altitude.{Altitude}
use Rattle.problem.specs.declared.Altitude.TheVariants.{Barometric, Gnss}
use Rattle.problem.specs.declared.Problem.{Problem}
use Rattle.receptions.specs.declared.Reception.{Reception}
use Rattle.receptions.specs.declared.Fields.{Fields}
use Rattle.receptions.specs.Receptions.{fill_to, wholes, floats, fields_of}
use Rattle.inputs.specs.declared.Fault.TheVariants.{Disorder, BadField}
use Rattle.inputs.specs.declared.Given.{Given}
use Rattle.inputs.specs.Faults.{passed, unless, first_to}
use Rattle.inputs.specs.Domain.{good_time, good_coordinate, good_site, good_z, good_noise, good_reception, good_entry, good_metres, good_correction}
use Rattle.inputs.specs.Domain.{is_zero, good_altitude}
use Rattle.inputs.specs.Inputs.{entry_at, Inputs, inputs_of, check_reception, good_row_to, check_row, kind_at, correction_at, metres_at, check_altitude}
use Rattle.inputs.specs.Inputs.{check_inputs, metres_of, upper_at, altitude_of, shown_of, reference_of, problem_of}
use Rattle.inputs.specs.InDomain.{InDomain, Ascending, Read, altitude_good}
use Rattle.inputs.proofs.Clause.{Clause}
use Rattle.inputs.proofs.Order.{both_of, good_of, or-of, few, passed-receptions, passed-clock, passed-altitude, is-covered, clock-of, first_of}
use Rattle.receptions.specs.Identities.{before, ascends}
use Rattle.receptions.proofs.Filling.{fill-at}
use Rattle.receptions.proofs.Meaning.{identities-ordered}
use Rattle.inputs.proofs.Held.{metres_in, metres-held}

-- ---- a reception that passes
module _ (from : ℕ → Reception) (i : ℕ) (e : check_reception from i ≡ passed) where
  steps : (unless (good_reception (from i)) (BadField i) ≡ passed) × (unless (ascends (λ k. (from k).id) i) (Disorder i) ≡ passed)
  unfolding check_reception
  steps = or-of _ _ e

  pub above_before : ascends (λ k. (from k).id) i ≡ true
  above_before = good_of _ (Disorder i) steps.1

  abbrev r : Reception
  r = from i

  fields : (good_time r.time ≡ true) × (good_site r.site_mm && ((good_z r.z && good_noise r.noise_m2) && eqb r.filler 0) ≡ true)
  unfolding good_reception
  fields = both_of _ _ (good_of _ (BadField i) steps.0)

  later : (good_site r.site_mm ≡ true) × ((good_z r.z && good_noise r.noise_m2) && eqb r.filler 0 ≡ true)
  later = both_of _ _ fields.1

  floats-good : (good_z r.z ≡ true) × (good_noise r.noise_m2 ≡ true)
  floats-good = both_of _ _ (both_of _ _ later.1).0

  pub time-good : good_time r.time ≡ true
  time-good = fields.0

  pub z-good : good_z r.z ≡ true
  z-good = floats-good.0

  pub noise-good : good_noise r.noise_m2 ≡ true
  noise-good = floats-good.1

  abbrev good : ℕ → Bool
  good a = good_coordinate (get_or r.site_mm a (pos 0))

  pub coordinate-good : (a : ℕ) → a < 3 → good a ≡ true
  coordinate-good zero h = (both_of (good 0) (good 1 && good 2) later.0).0
  coordinate-good (suc zero) h = (both_of (good 1) (good 2) (both_of (good 0) (good 1 && good 2) later.0).1).0
  coordinate-good (suc (suc zero)) h = (both_of (good 1) (good 2) (both_of (good 0) (good 1 && good 2) later.0).1).1
  coordinate-good (suc (suc (suc a))) h = absurd (omega arith)

-- ---- a row that passes
row-good : (clock : List ℕ) (n i k m : ℕ) → good_row_to clock n i k ≡ true → m < k → good_entry i (i + m) (entry_at clock n i (i + m)) ≡ true
unfolding good_row_to
row-good clock n i zero m e h = absurd (omega arith)
row-good clock n i (suc k) m e h =
    let p = both_of (good_row_to clock n i k) (good_entry i (i + k) (entry_at clock n i (i + k))) e in
    go (eq-or-lt_of_le (let q : m ≤ k = omega arith in q)) p.1 (λ q. row-good clock n i k m p.0 q)
  where
    go : (m ≡ k) ⊎ (m < k) → good_entry i (i + k) (entry_at clock n i (i + k)) ≡ true
        → (m < k → good_entry i (i + m) (entry_at clock n i (i + m)) ≡ true) → good_entry i (i + m) (entry_at clock n i (i + m)) ≡ true
    go (inl q) c f = rw q c
    go (inr q) c f = f q

entry-good : (clock : List ℕ) (n i j : ℕ) → first_to (check_row clock n) n ≡ passed → i ≤ j → j < n → good_entry i j (entry_at clock n i j) ≡ true
entry-good clock n i j e h l =
    let d : i + (j - i) ≡ j = omega arith in
    rw d at (row-good clock n i (n - i) (j - i) (good_of _ (BadField (100 + i)) (first_of (check_row clock n) n i e (omega arith))) (omega arith))

pub upper : (clock : List ℕ) (n i j : ℕ) → i ≤ j → j < n → upper_at clock n (i * n + j) ≡ entry_at clock n i j
unfolding upper_at
upper clock n i j h l = rw (digits_div i l, digits_mod i l, le-leb i j h)

-- ---- an altitude that passes
tested : (kind : ℕ) (correction : ℤ) (metres : Float) → good_altitude kind correction metres ≡ true → good_metres metres ≡ true
unfolding good_altitude
tested kind correction metres e = (both_of ((eqb kind 1 && good_correction correction) || (eqb kind 2 && is_zero correction)) (good_metres metres) e).1

pub passed-metres : (a : List ℕ) → check_altitude (some a) ≡ passed → good_metres (metres_at a) ≡ true
passed-metres a e = tested (kind_at a) (correction_at a) (metres_at a) (good_of (good_altitude (kind_at a) (correction_at a) (metres_at a)) (BadField 200) e)

pub metres-good : (alt : Option (List ℕ)) → check_altitude alt ≡ passed → altitude_good (shown_of alt) ≡ true
metres-good none e = refl
metres-good (some a) e = go (eqb (kind_at a) 1) (passed-metres a e)
  where
    go : (first : Bool) → good_metres (metres_at a) ≡ true → altitude_good (cond first (Barometric (metres_at a)) (Gnss (metres_at a))) ≡ true
    go true f = f
    go false f = f

-- ---- receptions that pass
module _ (I : Inputs) (e : check_inputs I ≡ passed) where
  passes : (i : ℕ) → i < I.n → check_reception I.at i ≡ passed
  passes i h = first_of (check_reception I.at) I.n i (passed-receptions I e) h

  next-above : (i : ℕ) → suc i < I.n → before (I.at i).id (I.at (suc i)).id ≡ true
  unfolding ascends
  next-above i h = above_before I.at (suc i) (passes (suc i) h)

  -- each is above all before it, step by step
  climbs : (i d : ℕ) → suc i + d < I.n → before (I.at i).id (I.at (suc i + d)).id ≡ true
  climbs i zero h = let e : suc i + 0 ≡ suc i = omega arith in rw e (next-above i (omega (arith, h)))
  climbs i (suc d) h =
      let e : suc i + suc d ≡ suc (suc i + d) = omega arith in
      let last = suc i + d in
      rw e
      (identities-ordered.transitive (I.at i).id (I.at last).id (I.at (suc last)).id
      (climbs i d (omega (arith, h))) (next-above last (omega (arith, h))))

  pub ascending : Ascending I.at I.n
  ascending i j l h = let e : suc i + (j - suc i) ≡ j = omega (arith, l) in rw e at (climbs i (j - suc i) (omega (arith, l, h)))

-- ---- all that was read
abbrev covariance_of : List ℕ → ℕ → List Float
covariance_of clock n = fill_to (floats 1024) (upper_at clock n) (n * n)

module _ (n : ℕ) (from : ℕ → Reception) (g : Given) (b alt ref : List ℕ) where
  abbrev I : Inputs
  I = inputs_of true n from g b alt ref

  module _ (e : check_inputs I ≡ passed) where
    small : n ≤ 32
    small = few I e

    sites-good : (k : ℕ) → k < 3 * n → good_coordinate
        (get_or (fill_to (wholes 96) (λ k. get_or (from (k / 3)).site_mm (k % 3) (pos 0)) (3 * n)) k (pos 0)) ≡ true
    sites-good k h =
        let s = small in
        rw (fill-at (wholes 96) (λ k. get_or (from (k / 3)).site_mm (k % 3) (pos 0)) (3 * n) k (pos 0) h (rw length-replicate (omega arith)))
        (coordinate-good from (k / 3) (passes I e (k / 3) (omega arith)) (k % 3) (omega arith))

    pub clock-whole : (Option.get_or I.clock [] ≡ b) × (length b ≡ 8 * (n * n)) × (first_to (check_row b n) n ≡ passed)
    clock-whole = clock-of g.clock b n (passed-clock I e) (is-covered I e)

    clock-good : (i j : ℕ) → i ≤ j → j < n → good_entry i j (at (covariance_of (Option.get_or I.clock []) n) n i j) ≡ true
    clock-good i j h l =
        let s = small in
        let w : i < n = omega arith in
        let p = place i j n w l in
        let q = room n s in
        rw (
          clock-whole.0,
          fill-at (floats 1024) (upper_at b n) (n * n) (i * n + j) nan p (rw length-replicate (omega (arith, p, q))),
          upper b n i j h l,
        )
        (entry-good b n i j clock-whole.2 h l)

    -- the domain, clause by clause
    abbrev Domain : Type 0
    Domain = InDomain (problem_of I)

    domain-most : Clause (λ (d : Domain). d.most)
    unfolding problem_of
    domain-most = small

    domain-times : Clause (λ (d : Domain). d.times)
    unfolding problem_of fields_of
    domain-times i h =
        rw (fill-at (wholes 32) (λ i. (from i).time) n i (pos 0) h (rw length-replicate (let s = small in omega arith)))
        (time-good from i (passes I e i h))

    domain-sites : Clause (λ (d : Domain). d.sites)
    unfolding problem_of fields_of
    domain-sites = sites-good

    domain-zs : Clause (λ (d : Domain). d.zs)
    unfolding problem_of fields_of
    domain-zs i h =
        rw (fill-at (floats 32) (λ i. (from i).z) n i nan h (rw length-replicate (let s = small in omega arith)))
        (z-good from i (passes I e i h))

    domain-noises : Clause (λ (d : Domain). d.noises)
    unfolding problem_of fields_of
    domain-noises i h =
        rw (fill-at (floats 32) (λ i. (from i).noise_m2) n i nan h (rw length-replicate (let s = small in omega arith)))
        (noise-good from i (passes I e i h))

    domain-clock : Clause (λ (d : Domain). d.clock)
    unfolding problem_of
    domain-clock = clock-good

    domain-altitude : Clause (λ (d : Domain). d.altitude)
    unfolding problem_of
    domain-altitude = metres-good I.altitude (passed-altitude I e)

    pub in-domain : InDomain (problem_of I)
    in-domain = record {
      most = domain-most;
      times = domain-times;
      sites = domain-sites;
      zs = domain-zs;
      noises = domain-noises;
      clock = domain-clock;
      altitude = domain-altitude;
    }

-- ---- the problem, of its parts
abbrev pub made : ℕ → Fields → List Float → List Float → Altitude → ℤ → Altitude → Problem
made n f site clock altitude reference shown =
    record {
      n = n;
      time = f.time;
      site_mm = f.site_mm;
      site = site;
      z = f.z;
      noise_m2 = f.noise_m2;
      clock_m2 = clock;
      altitude = altitude;
      reference_ps = reference;
      shown = shown;
    }

module _ (f : Fields) (n : ℕ) (from : ℕ → Reception) (filled : f ≡ fields_of from n) (g : Given) (b alt ref : List ℕ)
    (e : check_inputs (inputs_of true n from g b alt ref) ≡ passed) where
  abbrev J : Inputs
  J = inputs_of true n from g b alt ref

  -- the problem of the inputs, by its parts
  abbrev whole-problem : Problem
  whole-problem = made n f (metres_of from n) (covariance_of b n) (altitude_of J.altitude) (reference_of J.reference) (shown_of J.altitude)

  read-problem : Clause (λ (r : Read J whole-problem). r.problem)
  unfolding problem_of
  read-problem =
      ap₂ (λ (h : Fields) (k : List ℕ). made n h (metres_of from n) (covariance_of k n) (altitude_of J.altitude) (reference_of J.reference)
      (shown_of J.altitude))
      filled (sym (clock-whole n from g b alt ref e).0)

  read-in-domain : whole-problem ≡ problem_of J → InDomain (problem_of J) → Clause (λ (r : Read J whole-problem). r.in_domain)
  read-in-domain same d = subst InDomain (sym same) d

  read-ascending : Clause (λ (r : Read J whole-problem). r.ascending)
  read-ascending = ascending J e

  pub is-problem
      : {site clock : List Float} {altitude shown : Altitude} {reference : ℤ}
      → site ≡ metres_in f.site_mm n → clock ≡ covariance_of b n → altitude ≡ altitude_of J.altitude → reference ≡ reference_of J.reference
      → shown ≡ shown_of J.altitude
      → Read J (made n f site clock altitude reference shown)
  is-problem s c a r d =
      rw (s, metres-held f n (few J e) from filled, c, a, r, d) (
      record { problem = read-problem; in_domain = read-in-domain read-problem (in-domain n from g b alt ref e); ascending = read-ascending }
      )
