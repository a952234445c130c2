-- What `|` and `^` of two numbers say of each. Assumes nothing.
use mathlib.Core.Path.{◌≡◌}
use Prim.Native.Nat.{ℕ, ◌≤◌}
use native.Mathlib.Omega.{arith}
use lib.Bits.{bit_or, bit_xor, or_add_and, xor_add_and, and_le_l, and_le_r}

pub or-le : (a b : ℕ) → (a ≤ bit_or a b) × (b ≤ bit_or a b)
or-le a b = (omega (arith, or_add_and a b, and_le_r a b), omega (arith, or_add_and a b, and_le_l a b))

pub or-none : (a b : ℕ) → bit_or a b ≡ 0 → (a ≡ 0) × (b ≡ 0)
or-none a b h = (omega (arith, or-le a b), omega (arith, or-le a b))

pub xor-none : (a b : ℕ) → bit_xor a b ≡ 0 → a ≡ b
xor-none a b h = omega (arith, xor_add_and a b, and_le_l a b, and_le_r a b)
