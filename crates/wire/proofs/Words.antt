-- i32 by sign and size. Assumes nothing.
use mathlib.Core.Path.{◌≡◌, sym, ap, ◌∙◌}
use mathlib.Core.Bool.{Bool, true}
use Prim.Native.Nat.{ℕ, ◌^◌, ◌<◌}
use native.Mathlib.Omega.{arith}
use lib.IntN.{ℤ, pos, negsuc, neg_ℤ, nat_abs, ◌-ℤ◌, +ℤ_idl}
use mir.Syntax.{w32}
use mir.Val.{SFits, to_z, of_z}
use mir.ValLaws.{to_z_pos, to_z-of_z}
use Rattle.wire.specs.Nearest.{signed}
use Rattle.wire.proofs.Distance.{size}

-- a size below 2 ^ 31 fits with either sign
pub fits : (z : ℤ) → nat_abs z < 2 ^ 31 → SFits w32 z
fits (pos n) h = record { sfits = h }
fits (negsuc n) h = record { sfits = omega arith }

pub signed-fits : (s : Bool) (n : ℕ) → n < 2 ^ 31 → SFits w32 (signed s n)
signed-fits s n h = fits (signed s n) (rw (size s n) h)

pub minus : (n : ℕ) → n < 2 ^ 31 → pos 0 -ℤ to_z w32 n ≡ signed true n
minus n h = ap (λ (z : ℤ). pos 0 -ℤ z) (to_z_pos w32 n h) ∙ +ℤ_idl (neg_ℤ (pos n))

-- a number that fits is read back from its bits
pub held : {r z : ℤ} → r ≡ z → nat_abs z < 2 ^ 31 → to_z w32 (of_z w32 r) ≡ z
held {z = z} e h = ap (λ (x : ℤ). to_z w32 (of_z w32 x)) e ∙ to_z-of_z w32 z (fits z h)

-- a sign that a test told
pub sized : (n : ℕ) {s t : Bool} {z : ℤ} → z ≡ signed t n → s ≡ t → z ≡ signed s n
sized n e h = e ∙ ap (λ (b : Bool). signed b n) (sym h)
