-- Document 02, item 7: what the two moves come to. Statements only: proofs/ proves each.
use Rattle.std.specs.Prelude.{ℕ, ◌<◌, ◌≤◌, ◌≡◌, List, ◌++◌, length, take, drop}
use Rattle.refusals.specs.Refusals.{torn_file, malformed_record, unequal_mirror, answer_of}
use Rattle.record.specs.Record.{stored, record_bytes}
use Rattle.reader.specs.Read.{read_of}
use Rattle.reader.specs.Meaning.{Bytes}
use Rattle.archive.specs.Forms.{bits, new_form, old_form}
use Rattle.archive.specs.Moves.{to_archive_answer, to_archive_output, from_archive_answer, from_archive_output}

-- "mirrored entries have equal bits"
abbrev pub EqualMirror : List ℕ → Type 0
EqualMirror s = (i j : ℕ) → i < 3 → j < 3 → bits s i j ≡ bits s j i

-- the reader takes it apart
abbrev pub Readable : List ℕ → Type 0
Readable s = answer_of (read_of s) ≡ 0

-- ---- the forms

-- The old form of a new record is the one record of 176 bytes with an equal mirror that has it as its new form.
abbrev pub OneOldForm : Type 0
OneOldForm =
    (a : List ℕ) → Bytes a → length a ≡ 152
    → (length (old_form a) ≡ record_bytes) × Bytes (old_form a) × EqualMirror (old_form a) × (new_form (old_form a) ≡ a)
    × ((s : List ℕ) → Bytes s → length s ≡ record_bytes → EqualMirror s → new_form s ≡ a → s ≡ old_form a)

-- ---- from the old form to the new

-- moved is exactly "A readable old record whose mirrored entries have equal bits", if its output is lent whole
abbrev pub MovedExactly : Type 0
MovedExactly =
    (s out : List ℕ)
    → (to_archive_answer s out ≡ 0 → (152 ≤ length out) × Readable s × EqualMirror s)
    × (152 ≤ length out → Readable s → EqualMirror s → to_archive_answer s out ≡ 0)

-- "20 unequal mirror, tested after the old form has been read"
abbrev pub UnequalMirrorExactly : Type 0
UnequalMirrorExactly =
    (s out : List ℕ)
    → (to_archive_answer s out ≡ unequal_mirror → (152 ≤ length out) × Readable s × (EqualMirror s → ⊥))
    × (152 ≤ length out → Readable s → (EqualMirror s → ⊥) → to_archive_answer s out ≡ unequal_mirror)

-- ---- there and back

-- "A readable old record whose mirrored entries have equal bits comes back byte for byte,"
abbrev pub OldComesBack : Type 0
OldComesBack =
    (s out back : List ℕ) → Bytes s → Readable s → EqualMirror s → 152 ≤ length out → record_bytes ≤ length back
    → (from_archive_answer (take 152 (to_archive_output s out)) back ≡ 0)
    × (from_archive_output (take 152 (to_archive_output s out)) back ≡ stored back s)

-- "and so does every new one whose old form can be read;"
abbrev pub NewComesBack : Type 0
NewComesBack =
    (a back out : List ℕ) → Bytes a → length a ≡ 152 → Readable (old_form a) → record_bytes ≤ length back
    → 152 ≤ length out
    → (from_archive_answer a back ≡ 0)
    × (to_archive_answer (take record_bytes (from_archive_output a back)) out ≡ 0)
    × (to_archive_output (take record_bytes (from_archive_output a back)) out ≡ a ++ drop 152 out)

-- "another new one gets 16 or 18."
abbrev pub OthersTurnedAway : Type 0
OthersTurnedAway =
    (a back : List ℕ) → record_bytes ≤ length back
    → ((length a ≡ 152 → ⊥) → from_archive_answer a back ≡ torn_file)
    × (length a ≡ 152 → (Readable (old_form a) → ⊥) → from_archive_answer a back ≡ malformed_record)

-- ---- the lent output

-- "bytes past the form stay", and after each refusal all of them
abbrev pub LentAsFound : Type 0
LentAsFound =
    (s out : List ℕ)
    → ((to_archive_answer s out ≡ 0 → ⊥) → to_archive_output s out ≡ out)
    × ((from_archive_answer s out ≡ 0 → ⊥) → from_archive_output s out ≡ out)
    × (drop 152 (to_archive_output s out) ≡ drop 152 out)
    × (drop record_bytes (from_archive_output s out) ≡ drop record_bytes out)
