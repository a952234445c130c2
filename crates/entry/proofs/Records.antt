-- What every record is that a solve writes: that of a refusal with the number and the detail of document 01's table, or that
-- of a fix whose mask is within n, whose dof is that of its mask, and whose covariance is symmetric. Assumes nothing.
use Rattle.std.proofs.Common.{Ok, Err}
use Prim.Native.Nat.{ℕ, ◌+◌, ◌^◌, ◌<◌, ◌≤◌}
use mathlib.Core.Path.{◌≡◌, refl, ap, ◌∙◌}
use mathlib.Core.Bool.{Bool, true, false, cond}
use mathlib.Core.Logic.{◌⊎◌, inl, inr}
use mathlib.Core.List.{List}
use mathlib.Core.Option.{Option, none, some}
use native.Mathlib.Omega.{arith}
use borrow.Author.Tests.{leb-true, leb-false}
use lib.Dec.{T, leb, eqb}
use lib.Ieee.{Float, nan, inf, fin, binary64, fits, le, lt, eq, neg, round, of_bits}
use lib.Ieee.Bits.{of_bits-fits}
use Rattle.refusals.specs.Refusals as refusals
use Rattle.binary64.specs.Steps.{is_finite}
use Rattle.dense.specs.Entries.{nth}
use Rattle.sets.specs.Sets.{count}
use Rattle.sets.specs.Mask.{has}
use Rattle.words.specs.Words.{u64_at, f64_at}
use Rattle.problem.specs.declared.Altitude.{Altitude}
use Rattle.problem.specs.declared.Altitude.TheVariants.{None, Barometric, Gnss}
use Rattle.problem.specs.declared.Problem.{Problem}
use Rattle.inputs.specs.declared.Fault.{Fault}
use Rattle.inputs.specs.declared.Fault.TheVariants.{TornInput, TooMany, Disorder, BadField, ClockSize, Uncovered}
use Rattle.inputs.specs.Domain.{good_metres}
use Rattle.inputs.specs.Faults.{Check, passed, number_of, detail_of}
use Rattle.inputs.specs.InDomain.{altitude_good}
use Rattle.inputs.specs.Inputs.{Inputs, check_inputs, kind_at, correction_at, metres_at, corrected, altitude_of, shown_of, problem_of}
use Rattle.inputs.proofs.Places.{Located, located}
use Rattle.inputs.proofs.Order.{passed-altitude}
use Rattle.inputs.proofs.Sound.{metres-good}
use Rattle.rounds.specs.declared.answer.Refusal.{Refusal}
use Rattle.rounds.specs.declared.answer.Refusal.TheVariants as why
use Rattle.rounds.specs.Setting.{Answer}
use Rattle.rounds.specs.Setting as answers
use Rattle.rounds.specs.Solve.{has_altitude, number, refusal_number, refusal_detail, solve_problem}
use Rattle.rounds.proofs.Mirrors.{fix-mirrored}
use Rattle.rounds.proofs.Shown.{fix-mask, fix-dof, too-few}
use Rattle.record.specs.declared.content.Fix.{Fix}
use Rattle.record.specs.Record.{kind, metres, refusal}
use Rattle.record.specs.Record as shown
use Rattle.entry.specs.Reply.{record_of, replied, reply}
use Rattle.entry.proofs.Replies.{many-away}
use Rattle.entry.proofs.Written.{small}

-- ---- what stands in a record

-- the number and the detail of a refusal
pub data Told : ℕ → ℕ → Type 0 where
  few : {d : ℕ} → d ≤ 3 → Told refusals.too_few d
  disorder : {d : ℕ} → 1 ≤ d → d ≤ 31 → Told refusals.disorder d
  bad_field : {d : ℕ} → (d ≤ 31) ⊎ (((100 ≤ d) × (d ≤ 131)) ⊎ (d ≡ 200)) → Told refusals.bad_field d
  plain : (k : ℕ) → 1 < k → (k ≤ 10) ⊎ ((k ≡ 13) ⊎ (k ≡ 15)) → Told k 0

-- a fix of n receptions with this altitude
pub record Shows (n : ℕ) (alt : Altitude) (x : Fix) : Type 0 where
  pub few : n ≤ 32
  pub mask : x.mask < 2 ^ n
  pub dof : x.dof + 4 ≡ count (has x.mask) 32 + cond (eqb (kind alt) 0) 0 1
  pub held : T (fits binary64 (metres alt))
  pub finite : is_finite (metres alt) ≡ true
  pub mirror01 : nth x.r0 1 ≡ nth x.r1 0
  pub mirror02 : nth x.r0 2 ≡ nth x.r2 0
  pub mirror12 : nth x.r1 2 ≡ nth x.r2 1

pub data Written (k : ℕ) (bytes : List ℕ) : Type 0 where
  refused : (d n : ℕ) → Told k d → (k ≤ 9 → n ≤ 32) → bytes ≡ refusal k d n → Written k bytes
  fixed : (n : ℕ) (alt : Altitude) (x : Fix) → k ≡ 0 → Shows n alt x → bytes ≡ shown.fix n alt x → Written k bytes

-- ---- inputs that are turned away

fault-told : (fault : Fault) → Located fault → Told (number_of fault) (detail_of fault)
fault-told TornInput l = plain refusals.torn_input (omega arith) (inr (inr refl))
fault-told TooMany l = plain refusals.too_many (omega arith) (inl (omega arith))
fault-told (Disorder i) l = disorder l.0 l.1
fault-told (BadField place) l = bad_field l
fault-told ClockSize l = plain refusals.clock_size (omega arith) (inr (inl refl))
fault-told Uncovered l = plain refusals.uncovered (omega arith) (inl (omega arith))

considered : (k n : ℕ) → (32 < n → 9 < k) → k ≤ 9 → n ≤ 32
considered k n f h = go (leb n 32) refl
  where
    go : (b : Bool) → leb n 32 ≡ b → n ≤ 32
    go true e = leb-true n 32 e
    go false e = absurd (let g : 9 < k = f (leb-false n 32 e) in omega arith)

-- ---- the altitude

-- the altitude that was solved with counts as the one that is shown
abbrev Counts : Altitude → Altitude → Type 0
Counts solved seen = ◌≡◌ {A = ℕ} (cond (has_altitude solved) 1 0) (cond (eqb (kind seen) 0) 0 1)

altitude-counts : (alt : Option (List ℕ)) → Counts (altitude_of alt) (shown_of alt)
altitude-counts none = refl
altitude-counts (some a) = go (eqb (kind_at a) 1) (corrected (metres_at a) (correction_at a)) (metres_at a)
  where
    go : (b : Bool) (x y : Float) → Counts (cond b (Barometric x) (Gnss y)) (cond b (Barometric y) (Gnss y))
    go true x y = refl
    go false x y = refl

-- what lies within limits is finite
good-finite : (x : Float) → good_metres x ≡ true → is_finite x ≡ true
unfolding good_metres is_finite le lt eq neg round
good-finite nan e = e
good-finite (inf true) e = e
good-finite (inf false) e = e
good-finite (fin s m k) e = refl

metres-finite : (alt : Altitude) → altitude_good alt ≡ true → is_finite (metres alt) ≡ true
unfolding is_finite of_bits
metres-finite None e = refl
metres-finite (Barometric m) e = good-finite m e
metres-finite (Gnss m) e = good-finite m e

metres-held : (alt : Option (List ℕ)) → T (fits binary64 (metres (shown_of alt)))
unfolding f64_at
metres-held none = of_bits-fits binary64 0
metres-held (some a) = go (eqb (kind_at a) 1)
  where
    go : (b : Bool) → T (fits binary64 (metres (cond b (Barometric (f64_at a 8)) (Gnss (f64_at a 8)))))
    go true = of_bits-fits binary64 (u64_at a 8)
    go false = of_bits-fits binary64 (u64_at a 8)

-- ---- a problem, and the altitude that its record shows

module _ (I : Inputs) (passes : check_inputs I ≡ passed) (alt : Altitude) where
  abbrev P : Problem
  P = problem_of I

  module _ (counts : Counts P.altitude alt) (held : T (fits binary64 (metres alt))) (finite : is_finite (metres alt) ≡ true) where
    fix-shows : (x : Fix) → solve_problem P ≡ answers.fix x → Shows P.n alt x
    fix-shows x e =
        let N = small I passes in
        let m = fix-mirrored P x e in
        record {
          few = N;
          mask = fix-mask P N x e;
          dof = fix-dof P N x e ∙ ap (λ (c : ℕ). count (has x.mask) 32 + c) counts;
          held = held;
          finite = finite;
          mirror01 = m 0 1 (omega arith) (omega arith);
          mirror02 = m 0 2 (omega arith) (omega arith);
          mirror12 = m 1 2 (omega arith) (omega arith);
        }

    refusal-told : (e : Refusal) → solve_problem P ≡ answers.refused e → Told (refusal_number e) (refusal_detail e)
    refusal-told (why.TooFew c) q = few (too-few P (small I passes) c q)
    refusal-told why.NoConvergence q = plain refusals.no_convergence (omega arith) (inl (omega arith))
    refusal-told why.OutOfRange q = plain refusals.out_of_range (omega arith) (inl (omega arith))
    refusal-told why.NoFixedPoint q = plain refusals.no_fixed_point (omega arith) (inl (omega arith))
    refusal-told why.Inconsistent q = plain refusals.inconsistent (omega arith) (inl (omega arith))
    refusal-told why.Singular q = plain refusals.singular (omega arith) (inl (omega arith))
    refusal-told why.Ambiguous q = plain refusals.ambiguous (omega arith) (inl (omega arith))
    refusal-told why.Uncertain q = plain refusals.uncertain (omega arith) (inl (omega arith))

    answer-written : (a : Answer Fix) → solve_problem P ≡ a → Written (number a) (record_of P.n alt a)
    answer-written (answers.fix x) q = fixed P.n alt x refl (fix-shows x q) refl
    answer-written (answers.refused e) q = refused (refusal_detail e) P.n (refusal-told e q) (λ h. small I passes) refl
    answer-written answers.no_fixed_point q =
        refused 0 P.n (plain refusals.no_fixed_point (omega arith) (inl (omega arith))) (λ h. small I passes) refl

-- ---- every reply
pub reply-written : (I : Inputs) → Written (reply I).number (reply I).bytes
unfolding reply problem_of
reply-written I = go (check_inputs I) refl
  where
    go : (k : Check) → check_inputs I ≡ k → Written (replied k I).number (replied k I).bytes
    go (Err fault) e =
        refused (detail_of fault) I.n (fault-told fault (located I fault e)) (considered (number_of fault) I.n (many-away I fault e)) refl
    go (Ok _) e =
        let alt = shown_of I.altitude in
        let finite = metres-finite alt (metres-good I.altitude (passed-altitude I e)) in
        answer-written I e alt (altitude-counts I.altitude) (metres-held I.altitude) finite (solve_problem (problem_of I)) refl
