-- With a correction of 0 every reply is document 01's; whatever the correction, a fix shows the metres as given: the statements of
-- specs/Correction.antt. Metres that pass are a number, so their bits come back from the float (`to_bits-of_bits`); they are the last row of the record
-- (`last-read`). Assumes nothing.
use Rattle.std.proofs.Common.{Ok, Err}
use Prim.Native.Nat.{ℕ, ◌<◌, ◌^◌}
use mathlib.Core.Path.{◌≡◌, refl, ap, subst, ◌∙◌}
use mathlib.Core.Bool.{Bool, true, false, cond}
use mathlib.Core.List.{List, [], ◌∷◌, ◌++◌}
use mathlib.Core.Option.{Option, some}
use native.Mathlib.Omega.{arith}
use lib.ListN.{get_or}
use lib.Dec.{eqb}
use lib.Ieee.{Float, binary64, to_bits}
use lib.Ieee.Bits.{to_bits-of_bits}
use Rattle.words.specs.Words.{u64_at, f64_at}
use Rattle.words.proofs.Back.{word_lt}
use Rattle.problem.specs.declared.Altitude.{Altitude}
use Rattle.problem.specs.declared.Altitude.TheVariants.{Barometric, Gnss}
use Rattle.problem.specs.declared.Problem.{Problem}
use Rattle.inputs.specs.declared.Fault.{Fault}
use Rattle.inputs.specs.declared.Fault.TheVariants.{TornInput, TooMany, Disorder, BadField, ClockSize, Uncovered}
use Rattle.inputs.specs.Faults.{Check, passed, number_of}
use Rattle.inputs.specs.Inputs.{Inputs, check_altitude, check_inputs, kind_at, metres_at, shown_of, problem_of}
use Rattle.inputs.specs.Uncorrected.{old_check_inputs, Uncorrected}
use Rattle.inputs.proofs.Order.{passed-altitude}
use Rattle.inputs.proofs.Sound.{passed-metres}
use Rattle.inputs.proofs.Correction.{metres-number}
use Rattle.inputs.proofs.Uncorrected.{old-form-stays}
use Rattle.rounds.specs.Setting.{Answer, fix, refused, no_fixed_point}
use Rattle.rounds.specs.Solve.{number, solve_problem}
use Rattle.rounds.specs.declared.answer.Refusal.{Refusal}
use Rattle.rounds.specs.declared.answer.Refusal.TheVariants.{TooFew, NoConvergence, OutOfRange, NoFixedPoint, Inconsistent, Singular, Ambiguous}
use Rattle.rounds.specs.declared.answer.Refusal.TheVariants.{Uncertain}
use Rattle.record.specs.declared.content.Fix.{Fix}
use Rattle.record.specs.Record.{Row, from, u8, u16, u32, i64, f64, three-f64, head, kind, metres, blank_record}
use Rattle.record.specs.Record as shown
use Rattle.record.proofs.Rows.{last-read}
use Rattle.entry.specs.Reply.{record_of, answered, replied, reply}
use Rattle.entry.specs.Correction.{old_replied, OldAnswersStay, MetresAsGiven}

-- ---- a correction of 0
same-reply : (I : Inputs) → Uncorrected I.altitude → (c : Check) → replied c I ≡ old_replied c I
same-reply I u (Err fault) = refl
same-reply I u (Ok _) = ap (λ (p : Problem). answered I.n p.shown (solve_problem p)) (old-form-stays.problem I u)

pub old-answers-stay : OldAnswersStay
unfolding reply
old-answers-stay I u = ap (λ (c : Check). replied c I) (old-form-stays.check I u) ∙ same-reply I u (old_check_inputs I)

-- ---- the metres of a fix

-- all rows of a fix but its last
abbrev rows : ℕ → Altitude → Fix → List Row
rows n altitude f =
    head 0 f.dof n
    ++ from 12 (u32 f.mask)
    ∷ from 16 (three-f64 f.ecef)
    ∷ from 40 (f64 f.t)
    ∷ from 48 (f64 f.position.lat_deg)
    ∷ from 56 (f64 f.position.lon_deg)
    ∷ from 64 (f64 f.position.height_m)
    ∷ from 72 (i64 f.transmit_ps)
    ∷ from 80 (three-f64 f.r0)
    ∷ from 104 (three-f64 f.r1)
    ∷ from 128 (three-f64 f.r2)
    ∷ from 152 (f64 f.chi2)
    ∷ from 160 (u16 8)
    ∷ from 162 (u8 (kind altitude))
    ∷ []

fix-shows : (n : ℕ) (altitude : Altitude) (f : Fix) (bits : ℕ) → bits < 2 ^ 64 → to_bits binary64 (metres altitude) ≡ bits
    → u64_at (shown.fix n altitude f) 168 ≡ bits
unfolding shown.fix
fix-shows n altitude f bits l e = last-read blank_record (rows n altitude f) 168 (metres altitude) bits (omega arith) l e

either-kind : (first : Bool) (m : Float) → metres (cond first (Barometric m) (Gnss m)) ≡ m
either-kind true m = refl
either-kind false m = refl

-- ---- an answer of 0 is a fix
refused-not-0 : (why : Refusal) → number (refused why) ≡ 0 → ⊥
refused-not-0 (TooFew k) e = omega arith
refused-not-0 NoConvergence e = omega arith
refused-not-0 OutOfRange e = omega arith
refused-not-0 NoFixedPoint e = omega arith
refused-not-0 Inconsistent e = omega arith
refused-not-0 Singular e = omega arith
refused-not-0 Ambiguous e = omega arith
refused-not-0 Uncertain e = omega arith

fault-not-0 : (fault : Fault) → number_of fault ≡ 0 → ⊥
fault-not-0 TornInput e = omega arith
fault-not-0 TooMany e = omega arith
fault-not-0 (Disorder i) e = omega arith
fault-not-0 (BadField i) e = omega arith
fault-not-0 ClockSize e = omega arith
fault-not-0 Uncovered e = omega arith

answer-shows
    : (n : ℕ) (altitude : Altitude) (bits : ℕ) → bits < 2 ^ 64 → to_bits binary64 (metres altitude) ≡ bits
    → (x : Answer Fix) → number x ≡ 0 → u64_at (record_of n altitude x) 168 ≡ bits
answer-shows n altitude bits l b (fix f) e = fix-shows n altitude f bits l b
answer-shows n altitude bits l b (refused why) e = absurd (refused-not-0 why e)
answer-shows n altitude bits l b no_fixed_point e = absurd (omega arith)

module _ (I : Inputs) (a : List ℕ) (there : I.altitude ≡ some a) (bytes : (k : ℕ) → get_or a k 0 < 256) where
  word : u64_at a 8 < 2 ^ 64
  unfolding u64_at
  word = word_lt 8 a 8 bytes

  metres-bits : check_inputs I ≡ passed → to_bits binary64 (metres (problem_of I).shown) ≡ u64_at a 8
  unfolding problem_of f64_at
  metres-bits e =
      ap (λ (alt : Option (List ℕ)). to_bits binary64 (metres (shown_of alt))) there
      ∙ ap (to_bits binary64) (either-kind (eqb (kind_at a) 1) (metres_at a))
      ∙ to_bits-of_bits binary64 (u64_at a 8) word
      (metres-number (metres_at a) (passed-metres a (subst (λ (alt : Option (List ℕ)). check_altitude alt ≡ passed) there (passed-altitude I e))))

  reply-shows : (c : Check) → check_inputs I ≡ c → (replied c I).number ≡ 0 → u64_at (replied c I).bytes 168 ≡ u64_at a 8
  reply-shows (Err fault) e z = absurd (fault-not-0 fault z)
  reply-shows (Ok _) e z = answer-shows I.n (problem_of I).shown (u64_at a 8) word (metres-bits e) (solve_problem (problem_of I)) z

pub metres-as-given : MetresAsGiven
unfolding reply
metres-as-given I a there bytes z = reply-shows I a there bytes (check_inputs I) refl z
