-- The constant as the code has it. Assumes nothing.
use Rattle.std.proofs.Common.{◌≡◌, refl}
use lib.Ieee.{round, of_bits}
use Rattle.binary64.specs.Steps.{#}
use Rattle.near.specs.Near.{farthest}

pub farthest-bits : farthest ≡ # 0x4197D78400000000
unfolding farthest round of_bits
farthest-bits = refl
