-- Document 02, item 11: "for sizes 0 to 32", and "21 size or width over 32, or a buffer length not matching them,
-- tested before any number is read". Whether a call is turned away is decided by numbers of entries alone. Definitions
-- only.
use Rattle.std.specs.Prelude.{Bool, cond, ◌&&◌, List, ℕ, ◌*◌, leb, eqb, Float}
use Rattle.refusals.specs.Refusals.{wrong_size}

-- so many entries are so many rows and columns, of which there are at most 32 each
abbrev pub holds : ℕ → ℕ → ℕ → Bool
holds rows columns entries = leb rows 32 && (leb columns 32 && eqb entries (rows * columns))

-- ---- the buffers of each call, by their numbers of entries

-- a matrix or a factor, and the result
abbrev pub squares : ℕ → ℕ → ℕ → Bool
squares n l out = holds n n l && holds n n out

-- the factor, and a column for the result
abbrev pub square_and_column : ℕ → ℕ → ℕ → Bool
square_and_column n l out = holds n n l && holds n 1 out

-- both matrices, and the result
abbrev pub three_squares : ℕ → ℕ → ℕ → ℕ → Bool
three_squares n a inner out = holds n n a && squares n inner out

-- the factor, and the rows of Q and R
abbrev pub square_and_rows : ℕ → ℕ → ℕ → ℕ → ℕ → Bool
square_and_rows n width l q out = holds n n l && (holds n width q && holds n width out)

-- ---- what a call gives and leaves

-- 0, or the refusal
abbrev pub answer : Bool → ℕ
answer matching = cond matching 0 wrong_size

-- the result, or "all lent memory unchanged"
abbrev pub output : Bool → List Float → List Float → List Float
output matching result out = cond matching result out
