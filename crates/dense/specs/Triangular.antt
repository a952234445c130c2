-- `Cholesky::lower_inverse`, `inverse_triangular` and `inverse_diagonal` of linalg.rs, for every size n. Definitions
-- only.
use Rattle.std.specs.Prelude.{List, ℕ, zero, suc, ◌+◌, ◌*◌, ◌-◌, set, replicate, Float}
use Rattle.binary64.specs.Steps.{◌⊘◌, nought, one}
use Rattle.dense.specs.Entries.{at, put, minus_dots, dots}
use Rattle.dense.specs.Mirrored.{mirrored}

-- `for j in 0..i`, after j turns: row i of L⁻¹ left of the diagonal. Its entry j is
-- (0 - L i j * inv j j - L i (j + 1) * inv (j + 1) j - .. - L i (i - 1) * inv (i - 1) j) / L i i, from the left
unfoldable pub lower_row_to : List Float → ℕ → ℕ → List Float → ℕ → List Float
lower_row_to l n i inv zero = inv
lower_row_to l n i inv (suc j) =
    let g = lower_row_to l n i inv j in
    put g n i j (minus_dots (λ k. at l n i (j + k)) (λ k. at g n (j + k) j) (i - j) nought ⊘ at l n i i)

-- `Cholesky::lower_inverse`, L⁻¹, after i turns of `for i in 0..n`: the diagonal's entry, 1 / L i i, then those left of
-- it
unfoldable pub lower_inverse_to : List Float → ℕ → List Float → ℕ → List Float
lower_inverse_to l n inv zero = inv
lower_inverse_to l n inv (suc i) = lower_row_to l n i (put (lower_inverse_to l n inv i) n i i (one ⊘ at l n i i)) i

-- all n rows, in the array inv: what lies right of the diagonal stays
abbrev pub lower_inverse : List Float → ℕ → List Float → List Float
lower_inverse l n inv = lower_inverse_to l n inv n

-- the entry of row i and column j of L⁻ᵀ L⁻¹, for j not above i: 0 + inv i i * inv i j + inv (i + 1) i * inv (i + 1) j
-- + .. + inv (n - 1) i * inv (n - 1) j, from the left. "Sums start from plus zero".
abbrev pub columns_dot : List Float → ℕ → ℕ → ℕ → Float
columns_dot inv n i j = dots (λ k. at inv n (i + k) i) (λ k. at inv n (i + k) j) (n - i)

-- the entries on the diagonal of L⁻ᵀ L⁻¹, in the array d, after i turns
unfoldable pub diagonal_to : List Float → ℕ → List Float → ℕ → List Float
diagonal_to inv n d zero = d
diagonal_to inv n d (suc i) = set (diagonal_to inv n d i) i (columns_dot inv n i i)

-- the array of `Matrix::zeros`
abbrev pub blank : ℕ → List Float
blank n = replicate (n * n) nought

-- `Cholesky::inverse_triangular`, A⁻¹ as L⁻ᵀ L⁻¹, in the array m: what lies past the n rows stays
abbrev pub inverse_triangular : List Float → ℕ → List Float → List Float
inverse_triangular l n m = mirrored (columns_dot (lower_inverse l n (blank n)) n) n m

-- `Cholesky::inverse_diagonal`, A⁻¹'s diagonal, in the array d: what lies past its n entries stays
abbrev pub inverse_diagonal : List Float → ℕ → List Float → List Float
inverse_diagonal l n d = diagonal_to (lower_inverse l n (blank n)) n d n
