-- Entries of vectors and of square matrices, the running sums over them, and `Matrix::mul_vec` of linalg.rs, for every
-- size n. A matrix is a list, row by row. Definitions only.
use Rattle.std.specs.Prelude.{List, ℕ, zero, suc, ◌+◌, ◌*◌, get_or, set, Float}
use Rattle.std.specs.Float.{nan}
use Rattle.binary64.specs.Steps.{◌⊕◌, ◌⊖◌, ◌⊗◌, nought}

-- v[k]
abbrev pub nth : List Float → ℕ → Float
nth v k = get_or v k nan

-- `Matrix::get`: m[row * n + column]
abbrev pub at : List Float → ℕ → ℕ → ℕ → Float
at m n row column = nth m (row * n + column)

-- `Matrix::set`: m[row * n + column] = value, and nothing else changes
abbrev pub put : List Float → ℕ → ℕ → ℕ → Float → List Float
put m n row column value = set m (row * n + column) value

-- value - a 0 * b 0 - a 1 * b 1 - .. - a (m - 1) * b (m - 1), from the left: `for k in 0..m { value -= a[k] * b[k]; }`
unfoldable pub minus_dots : (ℕ → Float) → (ℕ → Float) → ℕ → Float → Float
minus_dots a b zero value = value
minus_dots a b (suc k) value = minus_dots a b k value ⊖ a k ⊗ b k

-- 0 + a 0 * b 0 + a 1 * b 1 + .. + a (m - 1) * b (m - 1), from the left: `sum` of the products. Document 01: "Sums
-- start from plus zero".
unfoldable pub dots : (ℕ → Float) → (ℕ → Float) → ℕ → Float
dots a b zero = nought
dots a b (suc k) = dots a b k ⊕ a k ⊗ b k

-- `Matrix::mul_vec`: A v in the array y, once its rows below `row` are found
unfoldable pub mul_vec_to : List Float → ℕ → List Float → List Float → ℕ → List Float
mul_vec_to a n v y zero = y
mul_vec_to a n v y (suc row) = set (mul_vec_to a n v y row) row (dots (at a n row) (nth v) n)

-- all n rows: what lies past them stays
abbrev pub mul_vec : List Float → ℕ → List Float → List Float → List Float
mul_vec a n v y = mul_vec_to a n v y n
