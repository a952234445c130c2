-- `Matrix::sandwich` of linalg.rs, for every size n. Definitions only.
use Rattle.std.specs.Prelude.{List, ℕ, zero, suc, Float}
use Rattle.dense.specs.Entries.{at, put, dots}
use Rattle.dense.specs.Mirrored.{mirrored}
use Rattle.dense.specs.Triangular.{blank}

-- row i of A times column j of B: 0 + A i 0 * B 0 j + .. + A i (n - 1) * B (n - 1) j, from the left
abbrev pub product : List Float → List Float → ℕ → ℕ → ℕ → Float
product a b n i j = dots (λ k. at a n i k) (λ k. at b n k j) n

-- `for j in 0..n`, after j turns: row i of A B
unfoldable pub product_row_to : List Float → List Float → ℕ → ℕ → List Float → ℕ → List Float
product_row_to a b n i m zero = m
product_row_to a b n i m (suc j) = put (product_row_to a b n i m j) n i j (product a b n i j)

-- `half`, A B, after i turns of `for i in 0..n`
unfoldable pub product_to : List Float → List Float → ℕ → List Float → ℕ → List Float
product_to a b n m zero = m
product_to a b n m (suc i) = product_row_to a b n i (product_to a b n m i) n

-- `Matrix::sandwich`, A B A for a symmetric A, in the array m: what lies past the n rows stays
abbrev pub sandwich : List Float → ℕ → List Float → List Float → List Float
sandwich a n inner m = mirrored (product (product_to a inner n (blank n) n) a n) n m
