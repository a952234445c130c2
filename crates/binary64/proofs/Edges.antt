-- Edges of the root, of rounding and of `max`, each computed. Document 01's own are quoted; those of zeros, infinities and not-a-numbers are in
-- Meaning.antt. Assumes nothing. `fin s m (pos k)` is m * 2 ^ k and `fin s m (negsuc k)` is m * 2 ^ -(k + 1), negative where s is true: so 2.5 is
-- `fin false 5 (negsuc 0)`.
use mathlib.Core.Path.{◌≡◌, refl}
use mathlib.Core.Bool.{true, false}
use lib.IntN.{pos, negsuc}
use lib.Ieee.{nan, fin, binary64, round, lt, of_bits, to_bits}
use Rattle.binary64.specs.Steps.{#, decimal, max_of}
use Rattle.binary64.specs.Root.{root}
use Rattle.binary64.specs.Rounding.{half_away}

-- ---- "Root of 2 has bits 3FF6A09E667F3BCD (hexadecimal). Root of 2^-1074 is 2^-537."
pub root-of-two : to_bits binary64 (root (fin false 1 (pos 1))) ≡ 0x3FF6A09E667F3BCD
unfolding to_bits root
root-of-two = refl

pub root-of-least : root (fin false 1 (negsuc 1073)) ≡ fin false 1 (negsuc 536)
unfolding root
root-of-least = refl

-- the greatest finite value
pub root-of-greatest : root (# 0x7FEFFFFFFFFFFFFF) ≡ # 0x5FEFFFFFFFFFFFFF
unfolding root of_bits
root-of-greatest = refl

-- ---- "2.5 rounds to 3, -2.5 to -3, 0.49999999999999994 to 0."
pub two-and-a-half : half_away (fin false 5 (negsuc 0)) ≡ fin false 3 (pos 0)
unfolding half_away
two-and-a-half = refl

pub minus-two-and-a-half : half_away (fin true 5 (negsuc 0)) ≡ fin true 3 (pos 0)
unfolding half_away
minus-two-and-a-half = refl

-- the last binary64 below a half
pub below-a-half-bits : decimal 49999999999999994 17 ≡ # 0x3FDFFFFFFFFFFFFF
unfolding round of_bits
below-a-half-bits = refl

pub below-a-half : half_away (decimal 49999999999999994 17) ≡ # 0
unfolding half_away round of_bits
below-a-half = refl

-- a result of 0 keeps the sign: -0.3 gives -0
pub minus-three-tenths : half_away (round binary64 true 3 10) ≡ # 0x8000000000000000
unfolding half_away round of_bits
minus-three-tenths = refl

-- ---- "Traps: adding a half and truncating": 2 ^ 52 + 1 is whole already, and no binary64 is a half more
pub odd-whole-stays : half_away (# 0x4330000000000001) ≡ # 0x4330000000000001
unfolding half_away of_bits
odd-whole-stays = refl

-- ---- "`max` gives its second argument unless the first is greater, so 1e-12 for a not-a-number and 1e-12."
pub max-of-nan : max_of nan (decimal 1 12) ≡ decimal 1 12
unfolding max_of lt round
max-of-nan = refl

-- -0 is not greater than 0, so the second is given: +0
pub max-of-zeros : max_of (# 0x8000000000000000) (# 0) ≡ # 0
unfolding max_of lt of_bits
max-of-zeros = refl
