-- A list of starts in the array that the code holds it in, four floats each. Nothing that must be believed cites it.
-- Definitions only.
use Rattle.std.specs.Prelude.{ℕ, ◌+◌, ◌*◌, cond, List, [], ◌∷◌, replicate, nat_lt, slice_set, Float}
use Rattle.binary64.specs.Steps.{nought}
use Rattle.dense.specs.Entries.{nth}
use Rattle.starts.specs.declared.Points.{Points}

-- no start
abbrev pub empty : Points
empty = record { n = 0; at = replicate 72 nought }

-- the array with a start at place k
abbrev pub put_point : List Float → ℕ → List Float → List Float
put_point at k params = slice_set (slice_set (slice_set (slice_set at (4 * k) (nth params 0)) (4 * k + 1) (nth params 1)) (4 * k + 2)
    (nth params 2)) (4 * k + 3) (nth params 3)

-- one start more. Past 18 there is no room, and there are never more (`starts-most` in proofs/Count.antt).
unfoldable pub push : Points → List Float → Points
push points params = cond (nat_lt points.n 18)
    (record { n = points.n + 1; at = put_point points.at points.n params }) points

-- a list more
unfoldable pub packed : Points → List (List Float) → Points
packed points [] = points
packed points (params ∷ rest) = packed (push points params) rest

-- the start at place k: of what `packed empty` makes, the k-th of the list (`packed-at` in proofs/Places.antt)
abbrev pub point : List Float → ℕ → List Float
point at k = nth at (4 * k) ∷ nth at (4 * k + 1) ∷ nth at (4 * k + 2) ∷ nth at (4 * k + 3) ∷ []
