-- `Cholesky::inverse` of linalg.rs: the inverse of the matrix whose factor is L, for every size n. Definitions only.
use Rattle.std.specs.Prelude.{List, ℕ, zero, suc, ◌+◌, ◌-◌, set, replicate, Float}
use Rattle.binary64.specs.Steps.{◌⊕◌, ◌⊗◌, nought, one, half}
use Rattle.dense.specs.Entries.{nth, at, put}
use Rattle.dense.specs.Solve.{solve}

-- `inverse.set(row, column, value)` for the values of x, after `row` turns
unfoldable pub put_column_to : List Float → ℕ → ℕ → List Float → ℕ → List Float
put_column_to m n column x zero = m
put_column_to m n column x (suc row) = put (put_column_to m n column x row) n row column (nth x row)

-- `for column in 0..n`, after `column` turns: the solutions of the unit vectors, n zeros but 1 at `column`, in the
-- columns of m
unfoldable pub columns_to : List Float → ℕ → List Float → ℕ → List Float
columns_to l n m zero = m
columns_to l n m (suc column) = put_column_to (columns_to l n m column) n column
    (solve l n (set (replicate n nought) column one)) n

-- "Symmetrise exactly": `for column in row + 1..n`, after k turns. The entry of row and column and its mirror both
-- become half their sum.
unfoldable pub symmetrise_row_to : ℕ → ℕ → List Float → ℕ → List Float
symmetrise_row_to n row m zero = m
symmetrise_row_to n row m (suc k) =
    let g = symmetrise_row_to n row m k in
    let column = row + 1 + k in
    let mean = half ⊗ (at g n row column ⊕ at g n column row) in
    put (put g n row column mean) n column row mean

-- `for row in 0..n`, after `row` turns
unfoldable pub symmetrise_to : ℕ → List Float → ℕ → List Float
symmetrise_to n m zero = m
symmetrise_to n m (suc row) = symmetrise_row_to n row (symmetrise_to n m row) (n - (row + 1))

-- all n columns and rows, in the array m: what lies past the n rows stays
abbrev pub inverse : List Float → ℕ → List Float → List Float
inverse l n m = symmetrise_to n (columns_to l n m n) n
