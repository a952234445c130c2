-- `binary64::square_root::off` meets its contract: where both parts are 0, b has the root's exponent (`xor-none`) and the nearest whole number, and
-- so the root's bits (`root-bits-are`). Assumes nothing.
use mathlib.Core.Path.{◌≡◌, refl}
use Prim.Native.Nat.{ℕ, ◌+◌, ◌-◌, ◌*◌, ◌/◌, ◌%◌, ◌^◌, ◌≤◌, ◌<◌}
use native.Mathlib.Omega.{arith}
use lib.Bits.{and_mask, mask_lt}
use lib.Ieee.{binary64, of_bits}
use Rattle.binary64.specs.Root.{root}
use Rattle.binary64.specs.Held.{Nearest}
use Rattle.binary64.proofs.Shift.{range, doubled}
use Rattle.binary64.proofs.BitTests.{or-none, xor-none}
use Rattle.binary64.proofs.RootBits.{digits_of, digits-range, root-bits-are}
use Rattle.binary64.proofs.square_root.off.Goals as goal

-- the value's digits, doubled where the exponent is odd
twice : (b e : ℕ) → digits_of b + digits_of b * (e % 2) ≡ digits_of b * 2 ^ (e % 2)
twice b e = doubled (digits_of b) (e % 2) (omega arith)

inside : (b e : ℕ) → digits_of b + digits_of b * (e % 2) < 2 ^ 54
inside b e = rw twice (range (digits_of b) (e % 2) (digits-range b).0 (digits-range b).1 (omega arith)).1

equal
    : (bits b : ℕ) → 2 ^ 52 ≤ bits → bits < 0x7ff0_0000_0000_0000
    → let e = bits / 2 ^ 52 + 1021 in
    b / 2 ^ 52 ≡ e / 2 + 1 → Nearest ((digits_of bits + digits_of bits * (e % 2)) * 2 ^ 52) (digits_of b)
    → (0 < b) × (of_bits binary64 b ≡ root (of_bits binary64 bits))
equal bits b lo hi x near =
    let e = bits / 2 ^ 52 + 1021 in
    let r : digits_of b ≡ b - e / 2 * 2 ^ 52 = omega (arith, and_mask b 52) in
    let there : Nearest (digits_of bits * 2 ^ (e % 2) * 2 ^ 52) (b - e / 2 * 2 ^ 52) = rw (twice bits e, r) at near in
    (omega arith, root-bits-are bits b e lo hi refl (omega arith) there)

pub overflow_add-m : goal.overflow_add-m
overflow_add-m c = record { fits = omega (arith, mask_lt c.args.bits 52) }

pub overflow_add-r : goal.overflow_add-r
overflow_add-r c = record { fits = omega (arith, mask_lt c.args.b 52) }

pub overflow_mul-m : goal.overflow_mul-m
overflow_mul-m c = record { fits = omega (arith, inside c.args.bits (c.args.bits / 2 ^ 52 + 1021)) }

pub overflow_add-m-2 : goal.overflow_add-m-2
overflow_add-m-2 c = record { fits = omega (arith, inside c.args.bits (c.args.bits / 2 ^ 52 + 1021)) }

pub far-requires : goal.far-requires
far-requires c = omega (arith, inside c.args.bits (c.args.bits / 2 ^ 52 + 1021), digits-range c.args.b)

pub returns : goal.returns
returns c = λ t lo hi.
    let z = or-none _ _ t in
    equal c.args.bits c.args.b lo hi (xor-none _ _ z.0) (c.far.ensures z.1)
