-- The reply by its parts: of an answer, of inputs that are turned away, and of a problem. Assumes nothing.
use Rattle.std.proofs.Common.{Ok, Err}
use Prim.Native.Nat.{ℕ, ◌<◌}
use Rattle.std.specs.Prelude as std
use mathlib.Core.Path.{◌≡◌, refl, ap, ap₂, sym, subst, ◌∙◌}
use mathlib.Core.Bool.{Bool, true, false}
use mathlib.Core.List.{List}
use native.Mathlib.Omega.{arith}
use borrow.Author.Tests.{lt-leb}
use Rattle.problem.specs.declared.Altitude.{Altitude}
use Rattle.problem.specs.declared.Problem.{Problem}
use Rattle.inputs.specs.declared.Fault.{Fault}
use Rattle.inputs.specs.declared.Fault.TheVariants.{TornInput, TooMany}
use Rattle.inputs.specs.Faults.{Check, passed, number_of, detail_of, or_else, unless}
use Rattle.inputs.specs.Inputs.{Inputs, untorn, check_inputs, problem_of}
use Rattle.inputs.proofs.Order.{is_whole}
use Rattle.rounds.specs.declared.answer.Refusal.{Refusal}
use Rattle.rounds.specs.declared.answer.Refusal.TheVariants.{NoFixedPoint}
use Rattle.rounds.specs.Setting.{Answer, fix, refused, no_fixed_point}
use Rattle.rounds.specs.Solve.{refusal_number, refusal_detail, solve_problem}
use Rattle.rounds.specs.Held.{as_answer}
use Rattle.record.specs.declared.content.Fix.{Fix}
use Rattle.record.specs.Record.{refusal}
use Rattle.record.specs.Record as shown
use Rattle.entry.specs.declared.Reply.{Reply}
use Rattle.entry.specs.Reply.{answered, turned_away, replied, reply}

-- ---- the reply of an answer
abbrev pub made : ℕ → List ℕ → Reply
made k l = record { number = k; bytes = l }

-- by what the code holds of it, in which no fixed point is one refusal more
module _ (n : ℕ) (altitude : Altitude) (a : Answer Fix) where
  pub fix-reply : (x : Fix) (b : List ℕ) → ◌≡◌ {A = std.Result Fix Refusal} (std.Ok x) (as_answer a) → b ≡ shown.fix n altitude x
      → made 0 b ≡ answered n altitude a
  fix-reply x b e f = go a e
    where
      go : (a : Answer Fix) → ◌≡◌ {A = std.Result Fix Refusal} (std.Ok x) (as_answer a) → made 0 b ≡ answered n altitude a
      go (fix y) e = let q : x ≡ y = cc in ap (made 0) (f ∙ ap (shown.fix n altitude) q)
      go (refused why) e = absurd (let q : ◌≡◌ {A = ℕ} 0 1 = cc in omega arith)
      go no_fixed_point e = absurd (let q : ◌≡◌ {A = ℕ} 0 1 = cc in omega arith)

  told-refusal : (why : Refusal) → ◌≡◌ {A = std.Result Fix Refusal} (std.Err why) (as_answer a)
      → made (refusal_number why) (refusal (refusal_number why) (refusal_detail why) n) ≡ answered n altitude a
  told-refusal why e = go a e
    where
      go : (a : Answer Fix) → ◌≡◌ {A = std.Result Fix Refusal} (std.Err why) (as_answer a)
          → made (refusal_number why) (refusal (refusal_number why) (refusal_detail why) n) ≡ answered n altitude a
      go (fix y) e = absurd (let q : ◌≡◌ {A = ℕ} 0 1 = cc in omega arith)
      go (refused w) e = let q : why ≡ w = cc in ap (λ (u : Refusal). made (refusal_number u) (refusal (refusal_number u) (refusal_detail u) n)) q
      go no_fixed_point e =
          let q : why ≡ NoFixedPoint = cc in ap (λ (u : Refusal). made (refusal_number u) (refusal (refusal_number u) (refusal_detail u) n)) q

  pub refusal-reply
      : (r : Reply) (why : Refusal) (k d : ℕ) → ◌≡◌ {A = std.Result Fix Refusal} (std.Err why) (as_answer a) → k ≡ refusal_number why
      → d ≡ refusal_detail why → (r.number ≡ k) × (r.bytes ≡ refusal k d n) → r ≡ answered n altitude a
  refusal-reply r why k d e f g q =
      ap₂ (λ (x : ℕ) (l : List ℕ). made x l) (q.0 ∙ f) (q.1 ∙ ap₂ (λ (x y : ℕ). refusal x y n) f g) ∙ told-refusal why e

-- ---- the reply to inputs that are turned away

-- from 10 on, n is not written
pub bare : (k d n m : ℕ) → 9 < k → refusal k d n ≡ refusal k d m
unfolding refusal
bare k d n m h = rw (lt-leb k 9 h)

pub away-reply : (r : Reply) (fault : Fault) (k d n : ℕ) → k ≡ number_of fault → d ≡ detail_of fault → (r.number ≡ k) × (r.bytes ≡ refusal k d n) → r
    ≡ turned_away fault n
away-reply r fault k d n f g h = ap₂ (λ (x : ℕ) (l : List ℕ). made x l) (h.0 ∙ f) (h.1 ∙ ap₂ (λ (x y : ℕ). refusal x y n) f g)

pub bare-reply
    : (r : Reply) (fault : Fault) (k d n : ℕ) → k ≡ number_of fault → d ≡ detail_of fault → 9 < number_of fault → (r.number ≡ k)
    × (r.bytes ≡ refusal k d 0) → r ≡ turned_away fault n
bare-reply r fault k d n f g l h = away-reply r fault k d 0 f g h ∙ ap (made (number_of fault)) (bare (number_of fault) (detail_of fault) 0 n l)

-- more than 32 receptions are turned away by 15 or 10
pub many-away : (I : Inputs) (fault : Fault) → check_inputs I ≡ Err fault → 32 < I.n → 9 < number_of fault
unfolding check_inputs
many-away I fault e h = go (untorn I) (rw (lt-leb I.n 32 h) at e)
  where
    go : (b : Bool) → or_else (unless b TornInput) (Err TooMany) ≡ Err fault → 9 < number_of fault
    go true q = let z : TooMany ≡ fault = cc in rw (← z) (omega arith)
    go false q = let z : TornInput ≡ fault = cc in rw (← z) (omega arith)

-- ---- the reply to the inputs

-- the receptions of inputs that pass came whole
abbrev pub not-torn : Inputs → Inputs
not-torn I = record { whole = true; n = I.n; at = I.at; clock = I.clock; altitude = I.altitude; reference = I.reference }

pub came-whole : (I : Inputs) → check_inputs I ≡ passed → check_inputs (not-torn I) ≡ passed
came-whole I e = subst (λ (w : Bool). check_inputs (record {
  whole = w;
  n = I.n;
  at = I.at;
  clock = I.clock;
  altitude = I.altitude;
  reference = I.reference;
}) ≡ passed) (is_whole I e) e

pub torn-or-whole : (I : Inputs) → problem_of (not-torn I) ≡ problem_of I
unfolding problem_of
torn-or-whole I = refl

module _ (I : Inputs) (k : Check) (K : k ≡ check_inputs I) where
  pub refused-reply : (r : Reply) (fault : Fault) → k ≡ Err fault → r ≡ turned_away fault I.n → r ≡ reply I
  unfolding reply
  refused-reply r fault e h = h ∙ ap (λ (c : Check). replied c I) (sym e ∙ K)

  pub problem-reply : (r : Reply) (p : Problem) → k ≡ passed → p ≡ problem_of I → r ≡ answered I.n p.shown (solve_problem p) → r ≡ reply I
  unfolding reply
  problem-reply r p e P h =
      h
      ∙ ap (λ (q : Problem). answered I.n q.shown (solve_problem q)) P
      ∙ ap (λ (c : Check). replied c I) (sym e ∙ K)
