-- The constants have the bits that the code has: those that Rust's expressions give, computed by the definitions of binary64. Assumes nothing.
use mathlib.Core.Path.{◌≡◌, refl}
use lib.Ieee.{round, add, neg, of_bits}
use Rattle.binary64.specs.Steps.{#, decimal}
use Rattle.limits.specs.Heights.{min_height_m, max_height_m}
use Rattle.limits.specs.Limits.{chi2_tail_z, rounding_x_m, rounding_t_m}
use Rattle.limits.specs.Local.{error_inflation, error_floor_m}

pub lowest : min_height_m ≡ # 0xC097700000000000
unfolding min_height_m round neg of_bits
lowest = refl

pub highest : max_height_m ≡ # 0x40D86A0000000000
unfolding max_height_m round of_bits
highest = refl

pub tail-z : chi2_tail_z ≡ # 0x4013038194C01605
unfolding chi2_tail_z round of_bits
tail-z = refl

pub nine : decimal 9 0 ≡ # 0x4022000000000000
unfolding round of_bits
nine = refl

-- 7.9e-3 + 1e-6 and 1.5e-4 + 1e-6, added in binary64
pub rounding-x : rounding_x_m ≡ # 0x3F802E6644D87725
unfolding rounding_x_m round add of_bits
rounding-x = refl

pub rounding-t : rounding_t_m ≡ # 0x3F23CAB81F969E3C
unfolding rounding_t_m round add of_bits
rounding-t = refl

pub inflation : error_inflation ≡ # 0x3FF199999999999A
unfolding error_inflation round of_bits
inflation = refl

pub least : error_floor_m ≡ # 0x4014000000000000
unfolding error_floor_m round of_bits
least = refl
