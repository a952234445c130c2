-- `Matrix::cholesky` of linalg.rs: the lower triangular L with A = L Lᵀ, for every size n. Definitions only.
use Rattle.std.specs.Prelude.{cond, List, ℕ, zero, suc, ◌+◌, ◌-◌, Float}
use Rattle.std.specs.Float.Ieee.{lt}
use Rattle.binary64.specs.Steps.{◌⊘◌, nought}
use Rattle.binary64.specs.Root.{root}
use Rattle.dense.specs.Entries.{at, put, minus_dots}

-- What the factor's array holds: every column once the factor is found, and the columns before a pivot that is refused.
-- Only entries on and left of the diagonal are written. The others stay as they came, which is zero in the Rust.
pub data Factor : Type 0 where
  found : List Float → Factor
  refused : List Float → Factor

-- `for i in j + 1..n`, after m turns: column j below the diagonal. Row i's entry is (A i j - L i 0 * L j 0 - .. - L i
-- (j - 1) * L j (j - 1)) / root
unfoldable pub column_to : List Float → ℕ → ℕ → Float → List Float → ℕ → List Float
column_to a n j root l zero = l
column_to a n j root l (suc m) =
    let g = column_to a n j root l m in
    let i = j + 1 + m in
    put g n i j (minus_dots (at g n i) (at g n j) j (at a n i j) ⊘ root)

-- `diagonal`: A j j - L j 0 * L j 0 - .. - L j (j - 1) * L j (j - 1)
abbrev pub pivot : List Float → ℕ → ℕ → List Float → Float
pivot a n j l = minus_dots (at l n j) (at l n j) j (at a n j j)

-- column j, unless a pivot is refused already. Document 01: "A pivot that is not a number, or not above 0, is refused."
-- A comparison with a not-a-number is false.
unfoldable pub column : List Float → ℕ → ℕ → Factor → Factor
column a n j (found l) =
    let r = root (pivot a n j l) in
    cond (lt nought (pivot a n j l)) (found (column_to a n j r (put l n j j r) (n - (j + 1)))) (refused l)
column a n j (refused l) = refused l

-- `for j in 0..n`, after j turns: the factor in the array l
unfoldable pub cholesky_to : List Float → ℕ → List Float → ℕ → Factor
cholesky_to a n l zero = found l
cholesky_to a n l (suc j) = column a n j (cholesky_to a n l j)

-- all n columns
abbrev pub cholesky : List Float → ℕ → List Float → Factor
cholesky a n l = cholesky_to a n l n
