-- The constants have the bits that the code has, computed by the definitions of binary64. Assumes nothing.
use mathlib.Core.Path.{◌≡◌, refl}
use lib.Ieee.{round, of_bits}
use Rattle.binary64.specs.Steps.{#, decimal}
use Rattle.best.specs.Plausible.{max_range_m}

pub farthest : max_range_m ≡ # 0x41224F8000000000
unfolding max_range_m round of_bits
farthest = refl

-- `AMBIGUOUS_COST`
pub nine : decimal 9 0 ≡ # 0x4022000000000000
unfolding round of_bits
nine = refl
