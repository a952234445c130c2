-- Document 02, item 7: "the move from the old form to the new and back", its refusals and the lent output. Definitions
-- only.
use Rattle.std.specs.Prelude.{ℕ, Bool, cond, ◌&&◌, List, ◌++◌, ltb, eqb, length, drop}
use Rattle.refusals.specs.Refusals.{short_output, torn_file, unequal_mirror, answer_of}
use Rattle.record.specs.Record.{stored, record_bytes}
use Rattle.reader.specs.Read.{read_of}
use Rattle.archive.specs.Forms.{bits, new_form, old_form}

-- "mirrored entries have equal bits"
unfoldable pub equal_mirror : List ℕ → Bool
equal_mirror s = eqb (bits s 0 1) (bits s 1 0) && (eqb (bits s 0 2) (bits s 2 0) && eqb (bits s 1 2) (bits s 2 1))

-- what a record in the old form gets: what the reader gives it, then "20 unequal mirror, tested after the old form has
-- been read"
unfoldable pub old_refusal : List ℕ → ℕ
old_refusal s = cond (eqb (answer_of (read_of s)) 0) (cond (equal_mirror s) 0 unequal_mirror) (answer_of (read_of s))

-- what a record in the new form gets: 16 for another length, and what the reader gives to its old form
unfoldable pub new_refusal : List ℕ → ℕ
new_refusal a = cond (eqb (length a) 152) (answer_of (read_of (old_form a))) torn_file

-- "An output shorter than its form is 14, tested first"
unfoldable pub to_archive_answer : List ℕ → List ℕ → ℕ
to_archive_answer s out = cond (ltb (length out) 152) short_output (old_refusal s)

unfoldable pub from_archive_answer : List ℕ → List ℕ → ℕ
from_archive_answer a out = cond (ltb (length out) record_bytes) short_output (new_refusal a)

-- the output afterwards: "bytes past the form stay", and a refusal leaves "lent memory as found"
unfoldable pub to_archive_output : List ℕ → List ℕ → List ℕ
to_archive_output s out = cond (eqb (to_archive_answer s out) 0) (new_form s ++ drop 152 out) out

unfoldable pub from_archive_output : List ℕ → List ℕ → List ℕ
from_archive_output a out = cond (eqb (from_archive_answer a out) 0) (stored out (old_form a)) out
