-- What the program writes for a record, and where it stops. Definitions only.
use Rattle.std.specs.Prelude.{ℕ, List, replicate}
use Rattle.move_archive.specs.declared.Stop.{Stop}
use Rattle.move_archive.specs.declared.Stop.TheVariants as stop
use Rattle.archive.specs.Moves.{to_archive_answer, to_archive_output, from_archive_answer, from_archive_output}

-- a record of 176 bytes, moved to the archive's form, and one of 152 moved back: the number that it gets and what is
-- written, over zeros
abbrev pub new_of : List ℕ → ℕ × List ℕ
new_of s = (to_archive_answer s (replicate 152 0), to_archive_output s (replicate 152 0))

abbrev pub old_of : List ℕ → ℕ × List ℕ
old_of a = (from_archive_answer a (replicate 176 0), from_archive_output a (replicate 176 0))

-- the place of the record that a file's moves stop at; where standard output does not take one, none is told
abbrev pub place_of : Stop → ℕ
place_of (stop.Refused place number) = place
place_of stop.Unwritten = 0
