-- Values worked out from the definitions alone, with the bits that solve.rs gives. Document 01's own edges are quoted. Assumes nothing.
use mathlib.Core.Path.{◌≡◌, refl}
use mathlib.Core.Bool.{true, false}
use lib.Ieee.{Float, round, add, sub, mul, div, of_int, of_bits}
use Rattle.binary64.specs.Steps.{◌⊕◌, ◌⊗◌, #, nought}
use Rattle.binary64.specs.Root.{root}
use Rattle.limits.specs.Limits.{dof, chi2_tail_z, chi2_limit, published_chi2_limit}

-- ---- "dof of 4 without altitude 0; 3 with 0; 4 with 1."
pub degrees : (dof 4 false ≡ 0) × (dof 3 true ≡ 0) × (dof 4 true ≡ 1)
degrees = (refl, refl, refl)

-- ---- "`chi2_limit(0)` is 0."
pub no-redundancy : chi2_limit 0 ≡ nought
unfolding chi2_limit
no-redundancy = refl

-- "treating dof 0 as "no limit", where the limit is the rounding's square"
pub rounding-squared : (rounding : Float) → published_chi2_limit 0 rounding ≡ (nought ⊕ rounding) ⊗ (nought ⊕ rounding)
unfolding published_chi2_limit chi2_limit root of_bits
rounding-squared rounding = refl

-- ---- one more than the least, the rivals' limit, and the greatest u32
pub limits : (chi2_limit 1 ≡ # 0x403B811AFB8C8A74) × (chi2_limit 4 ≡ # 0x40419B69EB40A7CC) × (chi2_limit 0xffff_ffff ≡ # 0x41F0006B8F9C3C3D)
unfolding chi2_limit chi2_tail_z root round of_int add sub mul div of_bits
limits = (refl, refl, refl)
