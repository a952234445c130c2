-- Each answer is 14 where the first test finds too little room, and no later test gives 14. Assumes nothing.
use Prim.Native.Nat.{ℕ, ◌<◌}
use mathlib.Core.Path.{◌≡◌, refl, sym, ap, ◌∙◌}
use mathlib.Core.Bool.{Bool, true, false, cond}
use mathlib.Core.Logic.{inl, inr}
use mathlib.Core.List.{List}
use native.Mathlib.Omega.{arith}
use borrow.Author.Tests.{ltb-true, lt-ltb}
use lib.Dec.{ltb, eqb}
use lib.ListN.{length}
use Rattle.std.specs.Prelude.{Ok, Err}
use Rattle.refusals.specs.declared.Refusal.TheVariants.{TornFile, MalformedRecord}
use Rattle.refusals.specs.Refusals.{answer_of}
use Rattle.reader.specs.Tests.{meets_rules}
use Rattle.reader.specs.Read.{content_at, read_of, readable, write_answer, write_output}
use Rattle.archive.specs.Forms.{old_form}
use Rattle.archive.specs.Moves.{equal_mirror, old_refusal, new_refusal, to_archive_answer, to_archive_output, from_archive_answer, from_archive_output}
use Rattle.near.proofs.Meaning.{within-answers, lent-as-found}
use Rattle.inputs.specs.Inputs.{Inputs}
use Rattle.entry.specs.declared.Reply.{Reply}
use Rattle.entry.specs.Reply.{reply}
use Rattle.entry.proofs.Records.{Told, few, disorder, bad_field, plain, Written, refused, fixed, reply-written}
use Rattle.why.specs.declared.Verdict.{Verdict}
use Rattle.why.specs.Why.{verdict}
use Rattle.why.specs.Meaning.{Agrees, with_fix, with_refusal}
use Rattle.why.proofs.Agreement.{agrees-with-solve}
use Rattle.stream.specs.Frames.{number_in, asked, solved_next}
use Rattle.stream.specs.Meaning.{first_of}
use Rattle.stream.proofs.Next.{Came, all, less, came}
use Rattle.mlat_solver.specs.Records.{content_of, whole, record_answer, record_output}
use Rattle.mlat_solver.specs.ShortOutput.{FourteenBelow, SolveNeedsRoom, WhyNeedsRoom, WriteNeedsRoom, ToArchiveNeedsRoom, FromArchiveNeedsRoom}
use Rattle.mlat_solver.specs.ShortOutput.{SolveNextNeedsRoom, WithinNeedsRoom}

-- a call that tests its room first, and whose later tests give `later`
module _ (needed lent answer later : ℕ) (AsFound : Type 0) (e : answer ≡ cond (ltb lent needed) 14 later) where
  short-where : (b : Bool) → ltb lent needed ≡ b → (b ≡ false → later ≡ 14 → ⊥) → answer ≡ 14 → lent < needed
  short-where true q never h = ltb-true lent needed q
  short-where false q never h = absurd (never refl (sym (e ∙ ap (λ (b : Bool). cond b 14 later) q) ∙ h))

  fourteen : (ltb lent needed ≡ false → later ≡ 14 → ⊥) → (ltb lent needed ≡ true → AsFound) → FourteenBelow needed lent answer AsFound
  fourteen never stays = record {
    exactly = (
      short-where (ltb lent needed) refl never,
      λ h. e ∙ ap (λ (b : Bool). cond b 14 later) (lt-ltb lent needed h),
    );
    stays = λ h. stays (lt-ltb lent needed h);
  }

-- ---- the solve, and why
told-other : {k d : ℕ} → Told k d → k ≡ 14 → ⊥
told-other (few h) e = omega arith
told-other (disorder g h) e = omega arith
told-other (bad_field h) e = omega arith
told-other (plain k g (inl h)) e = omega arith
told-other (plain k g (inr (inl h))) e = omega arith
told-other (plain k g (inr (inr h))) e = omega arith

written-other : (k : ℕ) (s : List ℕ) → Written k s → k ≡ 14 → ⊥
written-other k s (refused d n t h q) e = told-other t e
written-other k s (fixed n alt x z h q) e = omega arith

reply-other : (I : Inputs) → (reply I).number ≡ 14 → ⊥
reply-other I = written-other (reply I).number (reply I).bytes (reply-written I)

told-alike : (I : Inputs) (r : Reply) → Agrees I r → (verdict I).number ≡ r.number
told-alike I r (with_fix x v q s u) = ap (λ (w : Verdict). w.number) v ∙ sym (ap (λ (w : Reply). w.number) q)
told-alike I r (with_refusal k d p v q s) = ap (λ (w : Verdict). w.number) v ∙ sym (ap (λ (w : Reply). w.number) q)

verdict-other : (I : Inputs) → (verdict I).number ≡ 14 → ⊥
verdict-other I e = reply-other I (sym (told-alike I (reply I) (agrees-with-solve I)) ∙ e)

pub solve-needs-room : SolveNeedsRoom
solve-needs-room I out = fourteen 176 (length out) _ (reply I).number _ refl (λ l. reply-other I) (λ l. rw l)

pub why-needs-room : WhyNeedsRoom
why-needs-room I states detail =
    fourteen 640 (length states) _ (verdict I).number _ refl (λ l. verdict-other I) (λ l. (rw l, rw l))

-- ---- a problem of a stream
first-other : (s out : List ℕ) → Came s out → ltb (length out) 176 ≡ false → number_in (solved_next s out) ≡ 14 → ⊥
first-other s out (all g e) l q =
    let number : ℕ = (reply (asked (first_of s))).number in
    reply-other (asked (first_of s)) (sym (ap (λ (b : Bool). cond b 14 number) l) ∙ sym (ap number_in e) ∙ q)
first-other s out (less g e o) l q = let z : ◌≡◌ {A = ℕ} 16 14 = sym (ap number_in e) ∙ q in omega (arith, z)

pub solve-next-needs-room : SolveNextNeedsRoom
solve-next-needs-room s out used =
    fourteen 176 (length out) _ (number_in (solved_next s out)) _ refl (first-other s out (came s out)) (λ l. (rw l, rw l))

-- ---- records
cond-other : (b : Bool) (k m : ℕ) → (k ≡ 14 → ⊥) → (m ≡ 14 → ⊥) → cond b k m ≡ 14 → ⊥
cond-other true k m f g = f
cond-other false k m f g = g

read-other : (s : List ℕ) → answer_of (read_of s) ≡ 14 → ⊥
unfolding read_of
read-other s = go (eqb (length s) 176) (meets_rules s)
  where
    go : (a b : Bool) → answer_of (cond a (cond b (Ok (content_at s)) (Err MalformedRecord)) (Err TornFile)) ≡ 14 → ⊥
    go true true e = omega arith
    go true false e = omega arith
    go false b e = omega arith

same-either-way : (b : Bool) (s : List ℕ) → cond b s s ≡ s
same-either-way true s = refl
same-either-way false s = refl

pub write-needs-room : WriteNeedsRoom
unfolding record_answer record_output write_answer write_output
write-needs-room words numbers time out =
    let v = content_of words numbers time in
    fourteen 176 (length out) _ (cond (whole words numbers) (write_answer v out) 18) _ refl
    (λ l. rw l (cond-other (whole words numbers) (cond (readable v) 0 18) 18
    (cond-other (readable v) 0 18 (λ e. omega arith) (λ e. omega arith)) (λ e. omega arith)))
    (λ l. rw l (same-either-way (whole words numbers) out))

-- ---- the archive
pub to-archive-needs-room : ToArchiveNeedsRoom
unfolding to_archive_answer to_archive_output old_refusal
to-archive-needs-room s out =
    fourteen 152 (length out) _ (old_refusal s) _ refl
    (λ l. cond-other (eqb (answer_of (read_of s)) 0) (cond (equal_mirror s) 0 20) (answer_of (read_of s))
    (cond-other (equal_mirror s) 0 20 (λ e. omega arith) (λ e. omega arith)) (read-other s))
    (λ l. rw l)

pub from-archive-needs-room : FromArchiveNeedsRoom
unfolding from_archive_answer from_archive_output new_refusal
from-archive-needs-room a out =
    fourteen 176 (length out) _ (new_refusal a) _ refl
    (λ l. cond-other (eqb (length a) 152) (answer_of (read_of (old_form a))) 16 (read-other (old_form a)) (λ e. omega arith))
    (λ l. rw l)

-- ---- near
pub within-needs-room : WithinNeedsRoom
within-needs-room file point radius places count =
    let short = (within-answers file point radius places).short in
    record {
      exactly = short;
      stays = λ h. (lent-as-found file point radius places count).0 (λ e. let q : ◌≡◌ {A = ℕ} 0 14 = sym e ∙ short.1 h in omega (arith, q));
    }
