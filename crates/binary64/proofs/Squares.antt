-- Squares of whole numbers, and the whole number nearest to a root. Nothing here is about floats. Assumes nothing.
use mathlib.Core.Path.{◌≡◌}
use Prim.Native.Nat.{ℕ, suc, ◌+◌, ◌*◌, ◌≤◌, ◌<◌}
use native.Mathlib.Nat.{le_antisymm, lt_of_not-le, not-le_of_lt, le_of_suc-le-suc, mul-le-mul, mul-le-mul_left, mul-le-mul_right}
use native.Mathlib.Omega.{arith}
use Rattle.binary64.specs.Held.{Nearest}

pub sq-lt : (a b : ℕ) → a * a < b * b → a < b
sq-lt a b h = lt_of_not-le (λ (g : b ≤ a). not-le_of_lt h (mul-le-mul g g))

-- a's square is at most n, and the next one's is above it
abbrev pub Floored : ℕ → ℕ → Type 0
Floored n a = (a * a ≤ n) × (n < (a + 1) * (a + 1))

not-below : (w r t : ℕ) → Nearest w r → Nearest w t → r < t → ⊥
not-below w r t a b h = let l : r + 1 ≤ t = omega arith in omega (arith, mul-le-mul_right t l, mul-le-mul_left r l)

pub nearest-unique : (w r t : ℕ) → Nearest w r → Nearest w t → r ≡ t
nearest-unique w r t a b =
    le_antisymm
    (le_of_suc-le-suc (lt_of_not-le (λ (g : suc t ≤ r). not-below w t r b a g)))
    (le_of_suc-le-suc (lt_of_not-le (λ (g : suc r ≤ t). not-below w r t a b g)))

pub nearest-low : (w q : ℕ) → 0 < q → Floored w q → 4 * w < (2 * q + 1) * (2 * q + 1) → Nearest w q
nearest-low w q p f h = (omega arith, omega arith)

pub nearest-high : (w q : ℕ) → Floored w q → (2 * q + 1) * (2 * q + 1) < 4 * w → Nearest w (q + 1)
nearest-high w q f h = (omega arith, omega arith)

pub no_tie : (w q : ℕ) → 4 * w ≡ (2 * q + 1) * (2 * q + 1) → ⊥
no_tie w q h = omega arith
