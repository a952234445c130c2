-- The test of the mirror is the proposition, and the old form of a new record has an equal one. Assumes nothing.
use Prim.Native.Nat.{ℕ, zero, suc, ◌+◌, ◌≤◌}
use mathlib.Core.Path.{◌≡◌, refl, sym, ap, ◌∙◌}
use mathlib.Core.Bool.{Bool, true, false, ◌&&◌}
use mathlib.Core.List.{List}
use native.Mathlib.Omega.{arith}
use lib.Dec.{eqb, lit<}
use lib.ListN.{length, get_or}
use borrow.Author.Tests.{eq-eqb, eqb-true}
use Rattle.words.specs.Words.{u64_at}
use Rattle.reader.specs.Meaning.{Bytes}
use Rattle.reader.proofs.Tests.{both_true}
use Rattle.archive.specs.Forms.{part, bits, new_form, old_form}
use Rattle.archive.specs.Moves.{equal_mirror}
use Rattle.archive.specs.Meaning.{EqualMirror}
use Rattle.archive.proofs.Parts.{in-part, equal_words, equal-parts}
use Rattle.archive.proofs.Laid.{old-entry, old-again}

tested : (s : List ℕ) → equal_mirror s ≡ true → (bits s 0 1 ≡ bits s 1 0) × (bits s 0 2 ≡ bits s 2 0) × (bits s 1 2 ≡ bits s 2 1)
unfolding equal_mirror
tested s e =
    let t = both_true (eqb (bits s 0 1) (bits s 1 0)) (eqb (bits s 0 2) (bits s 2 0) && eqb (bits s 1 2) (bits s 2 1)) e in
    let u = both_true (eqb (bits s 0 2) (bits s 2 0)) (eqb (bits s 1 2) (bits s 2 1)) t.1 in
    (eqb-true _ _ t.0, eqb-true _ _ u.0, eqb-true _ _ u.1)

all-mirrored : (s : List ℕ) → bits s 0 1 ≡ bits s 1 0 → bits s 0 2 ≡ bits s 2 0 → bits s 1 2 ≡ bits s 2 1 → EqualMirror s
all-mirrored s p q r zero zero h g = refl
all-mirrored s p q r zero (suc zero) h g = p
all-mirrored s p q r zero (suc (suc zero)) h g = q
all-mirrored s p q r (suc zero) zero h g = sym p
all-mirrored s p q r (suc zero) (suc zero) h g = refl
all-mirrored s p q r (suc zero) (suc (suc zero)) h g = r
all-mirrored s p q r (suc (suc zero)) zero h g = sym q
all-mirrored s p q r (suc (suc zero)) (suc zero) h g = sym r
all-mirrored s p q r (suc (suc zero)) (suc (suc zero)) h g = refl
all-mirrored s p q r (suc (suc (suc i))) j h g = absurd (omega arith)
all-mirrored s p q r zero (suc (suc (suc j))) h g = absurd (omega arith)
all-mirrored s p q r (suc zero) (suc (suc (suc j))) h g = absurd (omega arith)
all-mirrored s p q r (suc (suc zero)) (suc (suc (suc j))) h g = absurd (omega arith)

pub mirror-tested : (s : List ℕ) → equal_mirror s ≡ true → EqualMirror s
mirror-tested s e = let t = tested s e in all-mirrored s t.0 t.1 t.2

pub mirror-passes : (s : List ℕ) → EqualMirror s → equal_mirror s ≡ true
unfolding equal_mirror
mirror-passes s m =
    rw (
      eq-eqb (bits s 0 1) (bits s 1 0) (m 0 1 (lit< tt) (lit< tt)),
      eq-eqb (bits s 0 2) (bits s 2 0) (m 0 2 (lit< tt) (lit< tt)),
      eq-eqb (bits s 1 2) (bits s 2 1) (m 1 2 (lit< tt) (lit< tt)),
    )

pub mirror-fails : (s : List ℕ) (b : Bool) → equal_mirror s ≡ b → (EqualMirror s → ⊥) → b ≡ false
mirror-fails s true e n = absurd (n (mirror-tested s e))
mirror-fails s false e n = refl

-- ---- bits and bytes of an entry

-- entries with equal bits are equal bytes
equal-entries : (s : List ℕ) (k j : ℕ) → Bytes s → k + 8 ≤ length s → j + 8 ≤ length s → u64_at s k ≡ u64_at s j → part s k 8 ≡ part s j 8
unfolding u64_at
equal-entries s k j b h g e = equal-parts 8 s k j b h g e

-- and entries of equal bytes have equal bits
equal-bits : (s : List ℕ) (k j : ℕ) → part s k 8 ≡ part s j 8 → u64_at s k ≡ u64_at s j
unfolding u64_at
equal-bits s k j e = equal_words 8 s k j (λ i h. sym (in-part s k 8 i h) ∙ ap (λ (l : List ℕ). get_or l i 0) e ∙ in-part s j 8 i h)

-- the old form of the new form of a record whose mirrored entries have equal bits is the record
pub comes_back : (s : List ℕ) → Bytes s → length s ≡ 176 → EqualMirror s → old_form (new_form s) ≡ s
comes_back s b z m =
    old-again s z
    (equal-entries s 88 104 b (omega arith) (omega arith) (m 0 1 (lit< tt) (lit< tt)))
    (equal-entries s 96 128 b (omega arith) (omega arith) (m 0 2 (lit< tt) (lit< tt)))
    (equal-entries s 120 136 b (omega arith) (omega arith) (m 1 2 (lit< tt) (lit< tt)))

pub old-mirrored : (a : List ℕ) → length a ≡ 152 → EqualMirror (old_form a)
old-mirrored a z =
    let o = old-entry a z in
    all-mirrored (old_form a)
    (equal-bits (old_form a) 88 104 (o 1 (lit< tt) ∙ sym (o 3 (lit< tt))))
    (equal-bits (old_form a) 96 128 (o 2 (lit< tt) ∙ sym (o 6 (lit< tt))))
    (equal-bits (old_form a) 120 136 (o 5 (lit< tt) ∙ sym (o 7 (lit< tt))))
