-- What `answer_next` gives a caller is the solve's answer to the first problem: the statement `NextSolved` of specs/Meaning.antt.
-- Assumes nothing.
use Rattle.std.specs.Prelude as std
use Prim.Native.Nat.{ℕ, ◌≤◌, ◌<◌}
use mathlib.Core.Path.{◌≡◌, refl, sym, ap, ◌∙◌}
use mathlib.Core.Bool.{Bool, true, false, cond}
use mathlib.Core.Logic.{inl, inr}
use mathlib.Core.List.{List, ◌++◌}
use mathlib.Core.Option.{Option, none, some}
use native.Mathlib.Omega.{arith}
use borrow.Author.Tests.{le-ltb, leb-true, leb-false}
use lib.Dec.{leb, ltb}
use lib.ListN.{length, drop, length-drop}
use Rattle.inputs.specs.Inputs.{Inputs, if_there}
use Rattle.reader.proofs.Clause.{Clause}
use Rattle.entry.specs.Reply.{reply, answer, output}
use Rattle.entry.proofs.Records.{Told, few, disorder, bad_field, plain, Written, refused, fixed, reply-written}
use Rattle.stream.specs.declared.Solved.{Solved}
use Rattle.stream.specs.Frames.{number_in, used_in, head_of, body_bytes, Parts, asked, torn, whole, solved_next, output_next, next_answer}
use Rattle.stream.specs.Frames.{next_output, used_after}
use Rattle.stream.specs.Meaning.{bytes_of, written, Writable, first_of, takes, is_there, lent_by, NextSolved}
use Rattle.stream.proofs.Solving.{by_bits, alike}
use Rattle.stream.proofs.Meaning.{answers-back, outputs-back, torn-back}

-- ---- the inputs are those that `mlat_solve` is lent

back : (x : Option (List ℕ)) → if_there (is_there x) (bytes_of x) ≡ x
back none = refl
back (some b) = refl

lent-asked : (p : Parts) → lent_by p ≡ asked p
lent-asked p =
    by_bits _ _ _ _ (is_there (p.clock)) (is_there (p.altitude)) (is_there (p.reference))
    ∙ alike _ _ _ _ _ _ _ _ refl (back (p.clock)) (back (p.altitude)) (back (p.reference))

-- ---- a stream ends within its first problem, or that is solved

pub data Came (s out : List ℕ) : Type 0 where
  all : takes s ≤ length s → solved_next s out ≡ whole (takes s) (first_of s) out → Came s out
  less : length s < takes s → solved_next s out ≡ torn → output_next s out ≡ out → Came s out

pub came : (s out : List ℕ) → Came s out
came s out = go (leb 16 (length s)) (leb (body_bytes (head_of s)) (length (drop 16 s))) refl refl
  where
    go : (b d : Bool) → leb 16 (length s) ≡ b → leb (body_bytes (head_of s)) (length (drop 16 s)) ≡ d → Came s out
    go false d t u = less (omega (arith, leb-false 16 (length s) t)) (rw t) (rw t)
    go true false t u =
        let short = leb-false (body_bytes (head_of s)) (length (drop 16 s)) u in
        less (omega (arith, short, leb-true 16 (length s) t, length-drop 16 s)) (rw (t, u)) (rw (t, u))
    go true true t u =
        let enough = leb-true (body_bytes (head_of s)) (length (drop 16 s)) u in
        all (omega (arith, enough, leb-true 16 (length s) t, length-drop 16 s)) (rw (t, u))

-- ---- no solve answers 16

told-other : {k d : ℕ} → Told k d → k ≡ 16 → ⊥
told-other (few h) e = omega arith
told-other (disorder g h) e = omega arith
told-other (bad_field h) e = omega arith
told-other (plain k g (inl h)) e = omega arith
told-other (plain k g (inr (inl h))) e = omega arith
told-other (plain k g (inr (inr h))) e = omega arith

written-other : (k : ℕ) (s : List ℕ) → Written k s → k ≡ 16 → ⊥
written-other k s (refused d n t h q) e = told-other t e
written-other k s (fixed n alt x z h q) e = omega arith

reply-other : (I : Inputs) → (reply I).number ≡ 16 → ⊥
reply-other I = written-other (reply I).number (reply I).bytes (reply-written I)

cond-other : (b : Bool) (k m : ℕ) → (k ≡ 16 → ⊥) → (m ≡ 16 → ⊥) → cond b k m ≡ 16 → ⊥
cond-other true k m f g = f
cond-other false k m f g = g

answer-other : (I : Inputs) (out : List ℕ) → answer I out ≡ 16 → ⊥
answer-other I out = cond-other (ltb (length out) 176) 14 (reply I).number (λ e. omega arith) (reply-other I)

-- ---- what the caller gets, by what came

abbrev answer_by : List ℕ → std.Option Solved → ℕ
answer_by out r = cond (ltb (length out) 176) 14 (number_in r)

abbrev used_by : List ℕ → ℕ → std.Option Solved → ℕ
used_by out found r = cond (ltb (length out) 176) found (used_in r found)

twice : {A : Type 0} (b : Bool) (x y : A) → cond b x (cond b x y) ≡ cond b x y
twice true x y = refl
twice false x y = refl

same : {A : Type 0} (b : Bool) (x : A) → cond b x x ≡ x
same true x = refl
same false x = refl

module _ (p : Parts) (more out : List ℕ) (w : Writable p) where
  answered : next_answer (written p ++ more) out ≡ answer (lent_by p) out
  answered =
      ap (answer_by out) (answers-back p w more out) ∙ twice (ltb (length out) 176) 14 (reply (asked p)).number
      ∙ ap (λ (I : Inputs). answer I out) (sym (lent-asked p))

  put-out : next_output (written p ++ more) out ≡ output (lent_by p) out
  put-out =
      ap (cond (ltb (length out) 176) out) (outputs-back p w more out) ∙ twice (ltb (length out) 176) out _
      ∙ ap (λ (I : Inputs). output I out) (sym (lent-asked p))

  counted : (found : ℕ) → 176 ≤ length out → used_after (written p ++ more) out found ≡ length (written p)
  counted found l = ap (used_by out found) (answers-back p w more out) ∙ rw (le-ltb (length out) 176 l)

module _ (s out : List ℕ) where
  short-answer : length s < takes s → 176 ≤ length out → next_answer s out ≡ 16
  short-answer h l = go (came s out)
    where
      go : Came s out → next_answer s out ≡ 16
      go (all g e) = absurd (omega (arith, g, h))
      go (less g e o) = ap (answer_by out) e ∙ rw (le-ltb (length out) 176 l)

  sixteen-short : next_answer s out ≡ 16 → length s < takes s
  sixteen-short q = go (came s out)
    where
      go : Came s out → length s < takes s
      go (all g e) =
          absurd (cond-other (ltb (length out) 176) 14 (answer (asked (first_of s)) out) (λ z. omega arith)
          (answer-other (asked (first_of s)) out) (sym (ap (answer_by out) e) ∙ q))
      go (less g e o) = g

  as-found : (found : ℕ) → next_answer s out ≡ 16 → (next_output s out ≡ out) × (used_after s out found ≡ found)
  as-found found q = go (came s out)
    where
      go : Came s out → (next_output s out ≡ out) × (used_after s out found ≡ found)
      go (all g e) = let h = sixteen-short q in absurd (omega (arith, g, h))
      go (less g e o) = (
        ap (cond (ltb (length out) 176) out) o ∙ same (ltb (length out) 176) out,
        ap (used_by out found) e ∙ same (ltb (length out) 176) found,
      )

-- ---- the clauses

next-answers : Clause (λ (n : NextSolved). n.answers)
next-answers p more out w = answered p more out w

next-outputs : Clause (λ (n : NextSolved). n.outputs)
next-outputs p more out w = put-out p more out w

next-used : Clause (λ (n : NextSolved). n.used)
next-used p more out found w l = counted p more out w found l

next-torn : Clause (λ (n : NextSolved). n.ends_within)
next-torn s out l = (sixteen-short s out, λ h. short-answer s out h l)

next-ends : Clause (λ (n : NextSolved). n.ends)
next-ends p front more out w e l h = ap (answer_by out) ((torn-back p front more out w e l).0) ∙ rw (le-ltb (length out) 176 h)

pub next-solved : NextSolved
next-solved = record {
  answers = next-answers;
  outputs = next-outputs;
  used = next-used;
  ends_within = next-torn;
  ends = next-ends;
  stays = as-found;
}
