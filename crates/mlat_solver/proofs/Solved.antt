-- Every record that a solve writes is read and moved: `reply-written` says what stands in it, and reader's laws that such a
-- record meets the rules. Assumes nothing.
use Prim.Native.Nat.{ℕ, ◌^◌, ◌<◌, ◌≤◌}
use mathlib.Core.Path.{◌≡◌, refl, sym, ap, subst, ◌∙◌}
use mathlib.Core.Bool.{true}
use mathlib.Core.Logic.{◌⊎◌, inl, inr}
use mathlib.Core.List.{List}
use native.Mathlib.Omega.{arith}
use borrow.Author.Tests.{eq-eqb, le-ltb}
use lib.ListN.{length, drop}
use lib.Seq.{take_at}
use lib.Ieee.{Float}
use Rattle.binary64.specs.Steps.{is_finite}
use Rattle.problem.specs.declared.Altitude.{Altitude}
use Rattle.record.specs.declared.content.Fix.{Fix}
use Rattle.record.specs.Record.{fix, refusal}
use Rattle.refusals.specs.Refusals.{answer_of}
use Rattle.reader.specs.Rules.{DetailRule, Rules}
use Rattle.reader.specs.Meaning.{Bytes}
use Rattle.reader.specs.Read.{read_of}
use Rattle.reader.proofs.Clause.{Clause}
use Rattle.reader.proofs.Meaning.{takes-apart-exactly}
use Rattle.reader.proofs.Shown.{refusal-u64, refusal-rules, mirror-shown, metres-shown, fix-rules}
use Rattle.reader.proofs.Value.{fix-sized, fix-bytes, refusal-sized, refusal-bytes}
use Rattle.archive.specs.Forms.{bits}
use Rattle.archive.specs.Moves.{equal_mirror}
use Rattle.archive.specs.Meaning.{EqualMirror}
use Rattle.archive.proofs.Mirror.{mirror-tested}
use Rattle.archive.proofs.Meaning.{moved-exactly, old-comes-back}
use Rattle.inputs.specs.Inputs.{Inputs}
use Rattle.entry.specs.Reply.{reply, answer}
use Rattle.entry.proofs.Records.{Told, few, disorder, bad_field, plain, Shows, Written, refused, fixed, reply-written}
use Rattle.mlat_solver.specs.Solved.{solved_record, FiniteFloats, Moves, SolvedMoves}

-- ---- what meets the rules and has an equal mirror is moved

mirrored : (s : List ℕ) → bits s 0 1 ≡ bits s 1 0 → bits s 0 2 ≡ bits s 2 0 → bits s 1 2 ≡ bits s 2 1 → EqualMirror s
unfolding equal_mirror
mirrored s x y z =
    mirror-tested s (rw (eq-eqb (bits s 0 1) (bits s 1 0) x, eq-eqb (bits s 0 2) (bits s 2 0) y, eq-eqb (bits s 1 2) (bits s 2 1) z))

module _ (s : List ℕ) (bytes : Bytes s) (sized : length s ≡ 176) (rules : Rules s) where
  is_read : Clause (λ (m : Moves s). m.read)
  is_read = (takes-apart-exactly s bytes).1 sized rules

  meets-rules : Clause (λ (m : Moves s). m.rules)
  meets-rules = rules

  unrefused : answer_of (read_of s) ≡ 0
  unrefused = ap answer_of is_read

  is-moved : EqualMirror s → Clause (λ (m : Moves s). m.moved)
  is-moved m to h = (moved-exactly s to).1 h unrefused m

  comes_back : EqualMirror s → Clause (λ (m : Moves s). m.back)
  comes_back m to back h g = (old-comes-back s to back bytes unrefused m h g).1

  ruled-moves : EqualMirror s → Moves s
  ruled-moves m = record { rules = meets-rules; read = is_read; moved = is-moved m; back = comes_back m }

-- ---- a refusal

pub told-refuses : {k d : ℕ} → Told k d → k ≡ 0 → ⊥
told-refuses (few h) e = omega arith
told-refuses (disorder g h) e = omega arith
told-refuses (bad_field h) e = omega arith
told-refuses (plain k g h) e = omega arith

told-answer : {k d : ℕ} → Told k d → (k ≤ 13) ⊎ (k ≡ 15)
told-answer (few h) = inl (omega arith)
told-answer (disorder g h) = inl (omega arith)
told-answer (bad_field h) = inl (omega arith)
told-answer (plain k g (inl h)) = inl (omega arith)
told-answer (plain k g (inr (inl e))) = inl (omega arith)
told-answer (plain k g (inr (inr e))) = inr e

told-lt : {k d : ℕ} → Told k d → d < 2 ^ 32
told-lt (few h) = omega arith
told-lt (disorder g h) = omega arith
told-lt (bad_field (inl h)) = omega arith
told-lt (bad_field (inr (inl h))) = let l = h.1 in omega arith
told-lt (bad_field (inr (inr e))) = omega arith
told-lt (plain k g h) = omega arith

none_of : (k : ℕ) → 1 < k → (k ≤ 10) ⊎ ((k ≡ 13) ⊎ (k ≡ 15)) → (k ≡ 1 → ⊥) × (k ≡ 11 → ⊥) × (k ≡ 12 → ⊥)
none_of k g (inl h) = (λ e. omega arith, λ e. omega arith, λ e. omega arith)
none_of k g (inr (inl h)) = (λ e. omega arith, λ e. omega arith, λ e. omega arith)
none_of k g (inr (inr h)) = (λ e. omega arith, λ e. omega arith, λ e. omega arith)

told-rule : {k d : ℕ} → Told k d → DetailRule k d
told-rule (few h) = record {
  too_few = λ e. h;
  disorder = λ e. absurd (omega arith);
  bad_field = λ e. absurd (omega arith);
  others = λ a b c. absurd (a refl);
}
told-rule (disorder g h) = record {
  too_few = λ e. absurd (omega arith);
  disorder = λ e. (g, h);
  bad_field = λ e. absurd (omega arith);
  others = λ a b c. absurd (b refl);
}
told-rule (bad_field h) = record {
  too_few = λ e. absurd (omega arith);
  disorder = λ e. absurd (omega arith);
  bad_field = λ e. h;
  others = λ a b c. absurd (c refl);
}
told-rule (plain k g h) =
    let n = none_of k g h in
    record {
      too_few = λ e. absurd (n.0 e);
      disorder = λ e. absurd (n.1 e);
      bad_field = λ e. absurd (n.2 e);
      others = λ a b c. refl;
    }

refusal-moves : (k d n : ℕ) → Told k d → (k ≤ 9 → n ≤ 32) → Moves (refusal k d n)
refusal-moves k d n t h =
    let s = refusal k d n in
    let rules = refusal-rules k d n (told-refuses t) (told-answer t) (told-lt t) (told-rule t) h in
    let zero = refusal-u64 k d n in
    ruled-moves s (refusal-bytes k d n) (refusal-sized k d n) rules
    (mirrored s
    (zero 88 (omega arith) (omega arith) ∙ sym (zero 104 (omega arith) (omega arith)))
    (zero 96 (omega arith) (omega arith) ∙ sym (zero 128 (omega arith) (omega arith)))
    (zero 120 (omega arith) (omega arith) ∙ sym (zero 136 (omega arith) (omega arith))))

-- ---- a fix

fix-moves : (n : ℕ) (alt : Altitude) (x : Fix) → Shows n alt x → FiniteFloats (fix n alt x) → Moves (fix n alt x)
fix-moves n alt x h f =
    let s = fix n alt x in
    let metres = subst (λ (y : Float). is_finite y ≡ true) (metres-shown n alt x h.held) h.finite in
    let rules = fix-rules n alt x h.few h.mask h.dof f.places f.claims metres in
    let m = mirror-shown n alt x h.mirror01 h.mirror02 h.mirror12 in
    ruled-moves s (fix-bytes n alt x) (fix-sized n alt x) rules (mirrored s m.0 m.1 m.2)

-- ---- every record

written-sized : (k : ℕ) (s : List ℕ) → Written k s → length s ≡ 176
written-sized k s (refused d n t h e) = ap length e ∙ refusal-sized k d n
written-sized k s (fixed n alt x z h e) = ap length e ∙ fix-sized n alt x

written-moves : (k : ℕ) (s : List ℕ) → Written k s → (k ≡ 0 → FiniteFloats s) → Moves s
written-moves k s (refused d n t h e) f = subst Moves (sym e) (refusal-moves k d n t h)
written-moves k s (fixed n alt x z h e) f = subst Moves (sym e) (fix-moves n alt x h (subst FiniteFloats e (f z)))

module _ (I : Inputs) (out : List ℕ) (lent : 176 ≤ length out) where
  pub answered : answer I out ≡ (reply I).number
  answered = rw (le-ltb (length out) 176 lent)

  pub is-record : solved_record I out ≡ (reply I).bytes
  is-record =
      rw (le-ltb (length out) 176 lent)
      (take_at (reply I).bytes (drop 176 out) 176 (written-sized (reply I).number (reply I).bytes (reply-written I)))

  moves : (answer I out ≡ 0 → FiniteFloats (solved_record I out)) → Moves (solved_record I out)
  moves f =
      let finite : (reply I).number ≡ 0 → FiniteFloats (reply I).bytes = λ z. subst FiniteFloats is-record (f (answered ∙ z)) in
      subst Moves (sym is-record) (written-moves (reply I).number (reply I).bytes (reply-written I) finite)

pub solved-moves : SolvedMoves
solved-moves = record {
  refusals = λ I out h n. moves I out h (λ e. absurd (n e));
  fixes = λ I out h e f. moves I out h (λ z. f);
}
