-- The constants have the bits that the code has. Assumes nothing.
use mathlib.Core.Path.{◌≡◌, refl}
use lib.Ieee.{round, of_bits}
use Rattle.binary64.specs.Steps.{#, decimal}

pub lambda-bits : decimal 1 3 ≡ # 0x3F50624DD2F1A9FC
unfolding round of_bits
lambda-bits = refl

pub tolerance-bits : decimal 1 4 ≡ # 0x3F1A36E2EB1C432D
unfolding round of_bits
tolerance-bits = refl

pub least-bits : decimal 1 12 ≡ # 0x3D719799812DEA11
unfolding round of_bits
least-bits = refl

pub most-bits : decimal 1_000_000_000_000 0 ≡ # 0x426D1A94A2000000
unfolding round of_bits
most-bits = refl

pub ten-bits : decimal 10 0 ≡ # 0x4024000000000000
unfolding round of_bits
ten-bits = refl
