-- Refusal 14, of every C name that gives it: document 01, "under 176 bytes lent", where 14 is first in the order and
-- "14 writes nothing"; document 02, items 7, 9 and 12, "tested first". Stated over the definitions that the promises
-- cite, with 14 and the rooms written as numbers. Statements only: proofs/ShortOutput.antt proves each.
use Rattle.std.specs.Prelude.{ℕ, ◌/◌, ◌<◌, ◌≡◌, ◌↔◌, List, ℤ, length, Float}
use Rattle.inputs.specs.Inputs.{Inputs}
use Rattle.entry.specs.Reply as solve
use Rattle.why.specs.Why as why
use Rattle.stream.specs.Frames.{next_answer, next_output, used_after}
use Rattle.archive.specs.Moves.{to_archive_answer, to_archive_output, from_archive_answer, from_archive_output}
use Rattle.near.specs.Near.{within_answer, places_after, count_after}
use Rattle.mlat_solver.specs.Records.{record_answer, record_output}

-- the answer is 14 exactly where fewer are lent than are needed, whatever else is given, and then all stays as found
pub record FourteenBelow (needed lent answer : ℕ) (AsFound : Type 0) : Type 0 where
  pub exactly : (answer ≡ 14) ↔ (lent < needed)
  pub stays : lent < needed → AsFound

-- `mlat_solve` and `mlat_solve_receptions`, for all inputs, as bytes or as a list: "under 176 bytes lent"
abbrev pub SolveNeedsRoom : Type 0
SolveNeedsRoom =
    (I : Inputs) (out : List ℕ)
    → FourteenBelow 176 (length out) (solve.answer I out) (solve.output I out ≡ out)

-- `mlat_why`: "A buffer under 640 bytes is 14, tested first."
abbrev pub WhyNeedsRoom : Type 0
WhyNeedsRoom =
    (I : Inputs) (states : List ℕ) (detail : ℕ)
    → FourteenBelow 640 (length states) (why.answer I states)
    ((why.output I states ≡ states) × (why.detail_after I states detail ≡ detail))

-- `mlat_solve_next`, whatever the stream is, and where it ends
abbrev pub SolveNextNeedsRoom : Type 0
SolveNextNeedsRoom =
    (stream out : List ℕ) (used : ℕ)
    → FourteenBelow 176 (length out) (next_answer stream out)
    ((next_output stream out ≡ out) × (used_after stream out used ≡ used))

-- `mlat_write_record`: a record has 176 bytes
abbrev pub WriteNeedsRoom : Type 0
WriteNeedsRoom =
    (words : List ℕ) (numbers : List Float) (time : ℤ) (out : List ℕ)
    → FourteenBelow 176 (length out) (record_answer words numbers time out) (record_output words numbers time out ≡ out)

-- `mlat_to_archive` and `mlat_from_archive`: "An output shorter than its form is 14, tested first"
abbrev pub ToArchiveNeedsRoom : Type 0
ToArchiveNeedsRoom =
    (bytes out : List ℕ)
    → FourteenBelow 152 (length out) (to_archive_answer bytes out) (to_archive_output bytes out ≡ out)

abbrev pub FromArchiveNeedsRoom : Type 0
FromArchiveNeedsRoom =
    (bytes out : List ℕ)
    → FourteenBelow 176 (length out) (from_archive_answer bytes out) (from_archive_output bytes out ≡ out)

-- `mlat_within`: "A buffer with fewer entries than the file's length divided by 176, rounded down, gets 14, tested
-- first."
abbrev pub WithinNeedsRoom : Type 0
WithinNeedsRoom =
    (file : List ℕ) (point : List Float) (radius : Float) (places : List ℕ) (count : ℕ)
    → FourteenBelow (length file / 176) (length places) (within_answer file point radius places)
    ((places_after file point radius places ≡ places) × (count_after file point radius places count ≡ count))
