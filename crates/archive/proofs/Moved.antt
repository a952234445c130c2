-- The ends of the two moves. Assumes nothing.
use Prim.Native.Nat.{ℕ, ◌<◌, ◌≤◌}
use mathlib.Core.Path.{◌≡◌, sym, ap, ◌∙◌}
use mathlib.Core.Bool.{Bool, true, false, cond}
use mathlib.Core.List.{List, ◌++◌}
use lib.Dec.{eqb}
use lib.ListN.{length, drop}
use borrow.Author.Tests.{eq-eqb, ne_eqb, lt-ltb, le-ltb}
use Rattle.record.specs.Record.{stored}
use Rattle.refusals.specs.Refusals.{answer_of}
use Rattle.reader.specs.Read.{read_of}
use Rattle.archive.specs.Forms.{bits, new_form, old_form}
use Rattle.archive.specs.Moves.{equal_mirror, old_refusal, new_refusal, to_archive_answer, to_archive_output, from_archive_answer, from_archive_output}

-- ---- the mirror

-- the outcome of a comparison, by what was compared
pub compared : {x y p q : ℕ} {r b : Bool} → r ≡ eqb x y → x ≡ p → y ≡ q → r ≡ b → eqb p q ≡ b
compared t e f h = rw (sym e, sym f, sym t) h

module _ (s : List ℕ) where
  pub first-unequal : eqb (bits s 0 1) (bits s 1 0) ≡ false → false ≡ equal_mirror s
  unfolding equal_mirror
  first-unequal e = rw e

  pub second-unequal : eqb (bits s 0 1) (bits s 1 0) ≡ true → eqb (bits s 0 2) (bits s 2 0) ≡ false → false ≡ equal_mirror s
  unfolding equal_mirror
  second-unequal e f = rw (e, f)

  pub third
      : {r : Bool} → eqb (bits s 0 1) (bits s 1 0) ≡ true → eqb (bits s 0 2) (bits s 2 0) ≡ true → eqb (bits s 1 2) (bits s 2 1) ≡ r
      → r ≡ equal_mirror s
  unfolding equal_mirror
  third e f g = rw (e, f, g)

-- ---- from the old form to the new

unread-by : (b m : Bool) (r : ℕ) → b ≡ false → cond b (cond m 0 20) r ≡ r
unread-by b m r e = rw e

read_by : (b m : Bool) (r : ℕ) → b ≡ true → cond b (cond m 0 20) r ≡ cond m 0 20
read_by b m r e = rw e

-- what the reader turns away gets the reader's number, and what it reads goes by its mirror
old-unread : (s : List ℕ) → ((answer_of (read_of s)) ≡ 0 → ⊥) → old_refusal s ≡ (answer_of (read_of s))
unfolding old_refusal
old-unread s n = unread-by (eqb (answer_of (read_of s)) 0) (equal_mirror s) (answer_of (read_of s)) (ne_eqb (answer_of (read_of s)) 0 n)

old-read : (s : List ℕ) → (answer_of (read_of s)) ≡ 0 → old_refusal s ≡ cond (equal_mirror s) 0 20
unfolding old_refusal
old-read s e = read_by (eqb (answer_of (read_of s)) 0) (equal_mirror s) (answer_of (read_of s)) (eq-eqb (answer_of (read_of s)) 0 e)

module _ (s out : List ℕ) where
  pub to-short : length out < 152 → to_archive_answer s out ≡ 14
  unfolding to_archive_answer
  to-short h = rw (lt-ltb (length out) 152 h)

  to-long : 152 ≤ length out → to_archive_answer s out ≡ old_refusal s
  unfolding to_archive_answer
  to-long h = rw (le-ltb (length out) 152 h)

  pub to-unread : 152 ≤ length out → ((answer_of (read_of s)) ≡ 0 → ⊥) → to_archive_answer s out ≡ (answer_of (read_of s))
  to-unread h n = to-long h ∙ old-unread s n

  pub to-unequal : 152 ≤ length out → (answer_of (read_of s)) ≡ 0 → equal_mirror s ≡ false → to_archive_answer s out ≡ 20
  to-unequal h r m = to-long h ∙ old-read s r ∙ ap (λ (b : Bool). cond b 0 20) m

  pub to-moved : 152 ≤ length out → (answer_of (read_of s)) ≡ 0 → equal_mirror s ≡ true → to_archive_answer s out ≡ 0
  to-moved h r m = to-long h ∙ old-read s r ∙ ap (λ (b : Bool). cond b 0 20) m

  -- a refusal leaves the output as found
  pub to-left : (r : ℕ) → to_archive_answer s out ≡ r → (r ≡ 0 → ⊥) → (r ≡ to_archive_answer s out) × (out ≡ to_archive_output s out)
  unfolding to_archive_output
  to-left r e n = (sym e, rw (ne_eqb (to_archive_answer s out) 0 (λ z. n (sym e ∙ z))))

  pub to-stored : to_archive_answer s out ≡ 0 → to_archive_output s out ≡ new_form s ++ drop 152 out
  unfolding to_archive_output
  to-stored e = rw e

-- ---- and back

module _ (a out : List ℕ) where
  pub from-short : length out < 176 → from_archive_answer a out ≡ 14
  unfolding from_archive_answer
  from-short h = rw (lt-ltb (length out) 176 h)

  pub from-torn : 176 ≤ length out → (length a ≡ 152 → ⊥) → from_archive_answer a out ≡ 16
  unfolding from_archive_answer new_refusal
  from-torn h n = rw (le-ltb (length out) 176 h, ne_eqb (length a) 152 n)

  -- of 152 bytes it is what the reader gives to the old form
  pub from-read : 176 ≤ length out → length a ≡ 152 → from_archive_answer a out ≡ (answer_of (read_of (old_form a)))
  unfolding from_archive_answer new_refusal
  from-read h l = rw (le-ltb (length out) 176 h, eq-eqb (length a) 152 l)

  pub from-left : (r : ℕ) → from_archive_answer a out ≡ r → (r ≡ 0 → ⊥) → (r ≡ from_archive_answer a out) × (out ≡ from_archive_output a out)
  unfolding from_archive_output
  from-left r e n = (sym e, rw (ne_eqb (from_archive_answer a out) 0 (λ z. n (sym e ∙ z))))

  pub from-stored : from_archive_answer a out ≡ 0 → from_archive_output a out ≡ stored out (old_form a)
  unfolding from_archive_output
  from-stored e = rw e
