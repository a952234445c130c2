-- Document 02, item 7: "Every refusal that the solve writes, and every fix of its with finite floats, can be moved, and
-- that is to be proved". Of `mlat_solve` and `mlat_solve_receptions`, which leave what entry's `output` says.
-- Definitions and a statement only: proofs/Solved.antt proves it.
use Rattle.std.specs.Prelude.{ℕ, ◌+◌, ◌*◌, ◌<◌, ◌≤◌, ◌≡◌, List, length, take, Ok}
use Rattle.record.specs.Record.{stored, record_bytes}
use Rattle.reader.specs.Rules.{Finite, Rules}
use Rattle.reader.specs.Read.{read_of, content_at}
use Rattle.archive.specs.Moves.{to_archive_answer, to_archive_output, from_archive_output}
use Rattle.inputs.specs.Inputs.{Inputs}
use Rattle.entry.specs.Reply.{answer, output}

-- the record that a solve of the inputs I leaves in the lent bytes
abbrev pub solved_record : Inputs → List ℕ → List ℕ
solved_record I out = take record_bytes (output I out)

-- "with finite floats": ECEF, T and the position; the covariance and chi2. An altitude's metres are, by the domain.
pub record FiniteFloats (s : List ℕ) : Type 0 where
  pub places : (i : ℕ) → i < 7 → Finite s (16 + 8 * i)
  pub claims : (i : ℕ) → i < 10 → Finite s (80 + 8 * i)

-- "can be moved": the reader's rules hold of s, so that it is taken apart; nothing refuses its move, and it "comes back
-- byte for byte"
pub record Moves (s : List ℕ) : Type 0 where
  pub rules : Rules s
  pub read : read_of s ≡ Ok (content_at s)
  pub moved : (to : List ℕ) → 152 ≤ length to → to_archive_answer s to ≡ 0
  pub back :
      (to back : List ℕ) → 152 ≤ length to → record_bytes ≤ length back
      → from_archive_output (take 152 (to_archive_output s to)) back ≡ stored back s

-- "if the source's steps can leave mirrored entries unequal, exactly such fixes among these get 20": they cannot
pub record SolvedMoves : Type 0 where
  pub refusals : (I : Inputs) (out : List ℕ) → record_bytes ≤ length out → (answer I out ≡ 0 → ⊥)
      → Moves (solved_record I out)
  pub fixes :
      (I : Inputs) (out : List ℕ) → record_bytes ≤ length out → answer I out ≡ 0 → FiniteFloats (solved_record I out)
      → Moves (solved_record I out)
