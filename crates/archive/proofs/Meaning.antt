-- What the two moves come to: each statement of specs/Meaning.antt. Assumes nothing.
use Prim.Native.Nat.{ℕ}
use mathlib.Core.Path.{◌≡◌, refl, sym, ap, ◌∙◌}
use mathlib.Core.Bool.{Bool, true, false, cond, true≢false}
use mathlib.Core.List.{List, ◌++◌}
use native.Mathlib.Omega.{arith}
use lib.Dec.{ltb, eqb}
use lib.ListN.{length, take, drop}
use lib.Seq.{take_at, drop_at}
use borrow.Author.Tests.{eqb-true, eqb-false, ltb-false}
use Rattle.record.specs.Record.{stored}
use Rattle.refusals.specs.Refusals.{answer_of}
use Rattle.reader.specs.Read.{read_of}
use Rattle.reader.proofs.Reading.{accepted}
use Rattle.archive.specs.Forms.{new_form, old_form}
use Rattle.archive.specs.Moves.{equal_mirror, old_refusal, new_refusal, to_archive_answer, to_archive_output, from_archive_answer, from_archive_output}
use Rattle.archive.specs.Meaning.{OneOldForm, MovedExactly, UnequalMirrorExactly}
use Rattle.archive.specs.Meaning.{OldComesBack, NewComesBack, OthersTurnedAway, LentAsFound}
use Rattle.archive.proofs.Laid.{new-size, old-size, old-bytes, new-again}
use Rattle.archive.proofs.Mirror.{mirror-tested, mirror-passes, mirror-fails, comes_back, old-mirrored}
use Rattle.archive.proofs.Readings.{malformed, never-20}
use Rattle.archive.proofs.Moved.{to-unequal, to-moved, to-left, to-stored, from-torn, from-read, from-left, from-stored}

-- ---- the forms

pub one-old-form : OneOldForm
one-old-form a b z = (
  old-size a z,
  old-bytes a z b,
  old-mirrored a z,
  new-again a z,
  λ s c y m e. sym (comes_back s c y m) ∙ ap old_form e,
)

-- ---- from the old form to the new

-- the two answers of which a statement speaks, by the tests that lead to them
moved_by
    : (a b m : Bool) (r : ℕ) → b ≡ eqb r 0 → ◌≡◌ {A = ℕ} (cond a 14 (cond b (cond m 0 20) r)) 0 → (a ≡ false) × (r ≡ 0) × (m ≡ true)
moved_by true b m r t e = absurd (omega arith)
moved_by false true true r t e = (refl, eqb-true r 0 (sym t), refl)
moved_by false true false r t e = absurd (omega arith)
moved_by false false m r t e = absurd (eqb-false r 0 (sym t) e)

unequal-by
    : (a b m : Bool) (r : ℕ) → b ≡ eqb r 0 → (r ≡ 20 → ⊥) → ◌≡◌ {A = ℕ} (cond a 14 (cond b (cond m 0 20) r)) 20
    → (a ≡ false) × (r ≡ 0) × (m ≡ false)
unequal-by true b m r t n e = absurd (omega arith)
unequal-by false true true r t n e = absurd (omega arith)
unequal-by false true false r t n e = (refl, eqb-true r 0 (sym t), refl)
unequal-by false false m r t n e = absurd (n e)

pub moved-exactly : MovedExactly
unfolding to_archive_answer old_refusal
moved-exactly s out = (
  λ e.
      let t = moved_by (ltb (length out) 152) (eqb (answer_of (read_of s)) 0) (equal_mirror s) (answer_of (read_of s)) refl e in
      (ltb-false (length out) 152 t.0, t.1, mirror-tested s t.2),
  λ h r m. to-moved s out h r (mirror-passes s m),
)

pub unequal-mirror-exactly : UnequalMirrorExactly
unfolding to_archive_answer old_refusal
unequal-mirror-exactly s out = (
  λ e.
      let t = unequal-by (ltb (length out) 152) (eqb (answer_of (read_of s)) 0) (equal_mirror s) (answer_of (read_of s)) refl (never-20 s) e in
      (ltb-false (length out) 152 t.0, t.1, λ m. true≢false (sym (mirror-passes s m) ∙ t.2)),
  λ h r n. to-unequal s out h r (mirror-fails s (equal_mirror s) refl n),
)

-- ---- there and back

-- what was moved, in the output
moved-part : (s out : List ℕ) → length s ≡ 176 → to_archive_answer s out ≡ 0 → take 152 (to_archive_output s out) ≡ new_form s
moved-part s out z e = ap (take 152) (to-stored s out e) ∙ take_at (new_form s) (drop 152 out) 152 (new-size s z)

back-part : (a out : List ℕ) → length a ≡ 152 → from_archive_answer a out ≡ 0 → take 176 (from_archive_output a out) ≡ old_form a
back-part a out z e = ap (take 176) (from-stored a out e) ∙ take_at (old_form a) (drop 176 out) 176 (old-size a z)

pub old-comes-back : OldComesBack
old-comes-back s out back b r m h g =
    let z = (accepted s r).0 in
    let there : take 152 (to_archive_output s out) ≡ new_form s = moved-part s out z (to-moved s out h r (mirror-passes s m)) in
    let again = comes_back s b z m in
    let answer : from_archive_answer (new_form s) back ≡ 0 =
    from-read (new_form s) back g (new-size s z) ∙ ap (λ (l : List ℕ). (answer_of (read_of l))) again ∙ r in
    rw there (answer, from-stored (new_form s) back answer ∙ ap (stored back) again)

pub new-comes-back : NewComesBack
new-comes-back a back out b z r g h =
    let answer : from_archive_answer a back ≡ 0 = from-read a back g z ∙ r in
    let there : take 176 (from_archive_output a back) ≡ old_form a = back-part a back z answer in
    let again : to_archive_answer (old_form a) out ≡ 0 = to-moved (old_form a) out h r (mirror-passes (old_form a) (old-mirrored a z)) in
    (answer, rw there again, rw there (to-stored (old_form a) out again ∙ ap (λ (l : List ℕ). l ++ drop 152 out) (new-again a z)))

pub others-turned-away : OthersTurnedAway
others-turned-away a back h = (
  λ n. from-torn a back h n,
  λ z n. from-read a back h z ∙ malformed (old_form a) (old-size a z) n,
)

-- ---- the lent output

to-past : (s out : List ℕ) (b : Bool) → eqb (to_archive_answer s out) 0 ≡ b → drop 152 (to_archive_output s out) ≡ drop 152 out
to-past s out true t =
    let e = eqb-true (to_archive_answer s out) 0 t in
    let z = (accepted s ((moved-exactly s out).0 e).1).0 in
    ap (drop 152) (to-stored s out e) ∙ drop_at (new_form s) (drop 152 out) 152 (new-size s z)
to-past s out false t = ap (drop 152) (sym (to-left s out (to_archive_answer s out) refl (eqb-false _ 0 t)).1)

whole_by : (a b : Bool) (r : ℕ) → ◌≡◌ {A = ℕ} (cond a 14 (cond b r 16)) 0 → b ≡ true
whole_by true b r e = absurd (omega arith)
whole_by false true r e = refl
whole_by false false r e = absurd (omega arith)

-- only 152 bytes are moved back
whole : (a out : List ℕ) → from_archive_answer a out ≡ 0 → length a ≡ 152
unfolding from_archive_answer new_refusal
whole a out e = eqb-true (length a) 152 (whole_by (ltb (length out) 176) (eqb (length a) 152) (answer_of (read_of (old_form a))) e)

from_past : (a out : List ℕ) (b : Bool) → eqb (from_archive_answer a out) 0 ≡ b → drop 176 (from_archive_output a out) ≡ drop 176 out
from_past a out true t =
    let e = eqb-true (from_archive_answer a out) 0 t in
    ap (drop 176) (from-stored a out e) ∙ drop_at (old_form a) (drop 176 out) 176 (old-size a (whole a out e))
from_past a out false t = ap (drop 176) (sym (from-left a out (from_archive_answer a out) refl (eqb-false _ 0 t)).1)

pub lent-as-found : LentAsFound
lent-as-found s out = (
  λ n. sym (to-left s out (to_archive_answer s out) refl n).1,
  λ n. sym (from-left s out (from_archive_answer s out) refl n).1,
  to-past s out (eqb (to_archive_answer s out) 0) refl,
  from_past s out (eqb (from_archive_answer s out) 0) refl,
)
