-- Matrices that are symmetric by construction, for every size n: each value is found for a place on or left of the
-- diagonal, and stored there and in the mirrored place. Definitions only.
use Rattle.std.specs.Prelude.{List, ℕ, zero, suc, Float}
use Rattle.dense.specs.Entries.{put}

-- `for j in 0..=i`, after j turns: `out.set(i, j, value); out.set(j, i, value);`
unfoldable pub mirrored_row_to : (ℕ → ℕ → Float) → ℕ → ℕ → List Float → ℕ → List Float
mirrored_row_to value n i m zero = m
mirrored_row_to value n i m (suc j) = put (put (mirrored_row_to value n i m j) n i j (value i j)) n j i (value i j)

-- `for i in 0..n`, after i turns
unfoldable pub mirrored_to : (ℕ → ℕ → Float) → ℕ → List Float → ℕ → List Float
mirrored_to value n m zero = m
mirrored_to value n m (suc i) = mirrored_row_to value n i (mirrored_to value n m i) (suc i)

-- all n rows, in the array m: what lies past them stays
abbrev pub mirrored : (ℕ → ℕ → Float) → ℕ → List Float → List Float
mirrored value n m = mirrored_to value n m n
