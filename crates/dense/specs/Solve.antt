-- `Cholesky::forward`, `backward` and `solve` of linalg.rs, for every size n. Each works in the array that brings the
-- right side, and what lies past the n rows stays. Definitions only.
use Rattle.std.specs.Prelude.{List, ℕ, zero, suc, ◌+◌, ◌-◌, set, Float}
use Rattle.binary64.specs.Steps.{◌⊘◌}
use Rattle.dense.specs.Entries.{nth, at, minus_dots}

-- `Cholesky::forward`, y with L y = b, after i turns of `for i in 0..n`: row i's entry is (b i - L i 0 * y 0 - .. - L i
-- (i - 1) * y (i - 1)) / L i i
unfoldable pub forward_to : List Float → ℕ → List Float → ℕ → List Float
forward_to l n b zero = b
forward_to l n b (suc i) =
    let y = forward_to l n b i in
    set y i (minus_dots (at l n i) (nth y) i (nth b i) ⊘ at l n i i)

-- all n rows
abbrev pub forward : List Float → ℕ → List Float → List Float
forward l n b = forward_to l n b n

-- `Cholesky::backward`, x with Lᵀ x = y, after m turns of `for i in (0..n).rev()`: row i's entry is (y i - L (i + 1) i
-- * x (i + 1) - .. - L (n - 1) i * x (n - 1)) / L i i
unfoldable pub backward_to : List Float → ℕ → List Float → ℕ → List Float
backward_to l n y zero = y
backward_to l n y (suc m) =
    let x = backward_to l n y m in
    let i = n - suc m in
    set x i (minus_dots (λ k. at l n (i + 1 + k) i) (λ k. nth x (i + 1 + k)) m (nth y i) ⊘ at l n i i)

-- all n rows
abbrev pub backward : List Float → ℕ → List Float → List Float
backward l n y = backward_to l n y n

-- `Cholesky::solve`, x with A x = b
abbrev pub solve : List Float → ℕ → List Float → List Float
solve l n b = backward l n (forward l n b)
