-- What `Matrix::cholesky` reads and writes, for every size: of the matrix the lower triangle alone, and nothing right
-- of the diagonal. Definitions and statements only: proofs/Lower.antt proves them.
use Rattle.std.specs.Prelude.{◌≡◌, List, ℕ, ◌≤◌, ◌<◌, Float}
use Rattle.dense.specs.Entries.{at}
use Rattle.dense.specs.Factor.{Factor, found, refused, cholesky}

-- the array of a factor, found or refused
abbrev pub array_of : Factor → List Float
array_of (found l) = l
array_of (refused l) = l

-- two matrices that agree on and left of the diagonal have the same factor
abbrev pub LowerAlone : Type 0
LowerAlone =
    (a a' : List Float) (n : ℕ) (l : List Float) → ((i j : ℕ) → j ≤ i → i < n → at a n i j ≡ at a' n i j)
    → cholesky a n l ≡ cholesky a' n l

-- what stood right of the diagonal of the factor's array stands there still
abbrev pub RightKept : Type 0
RightKept =
    (a : List Float) (n : ℕ) (l : List Float) (i j : ℕ) → i < j → j < n
    → at (array_of (cholesky a n l)) n i j ≡ at l n i j
