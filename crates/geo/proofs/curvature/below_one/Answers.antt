-- `geo::curvature::below_one` meets its contract: x is what its bits stand for (`back`), and the two tests leave the bits from 1/2 up to 1. Assumes
-- nothing.
use Rattle.std.proofs.Common.{◌≡◌, ℕ, ◌+◌, ◌-◌, ◌*◌, ◌^◌, ◌<◌, ◌≤◌, sym, ap, ◌∙◌, arith}
use lib.Ieee.{Float}
use Rattle.binary64.specs.Steps.{#}
use Rattle.binary64.proofs.Patterns.{number, back}
use Rattle.geo.specs.Held.{BelowOne}
use Rattle.geo.proofs.curvature.below_one.Goals as goal

counted : (x : Float) (b : ℕ) → 0x3fe0_0000_0000_0000 ≤ b → b < 0x3ff0_0000_0000_0000 → # b ≡ x → BelowOne x (b - 0x3fd0_0000_0000_0000)
counted x b lo hi e =
    let whole : b ≡ 1021 * 2 ^ 52 + (b - 0x3fd0_0000_0000_0000) = omega arith in
    (omega arith, omega arith, sym e ∙ ap # whole)

none : (x : Float) → 0 < 0 → BelowOne x 0
none x h = absurd (omega arith)

pub returns-then-x : goal.returns-then-x
returns-then-x c = none _

pub float_to_bits-bits : goal.float_to_bits-bits
float_to_bits-bits c = number _ c.if-x.false

pub returns-then-bits-lt4602678819172646912 : goal.returns-then-bits-lt4602678819172646912
returns-then-bits-lt4602678819172646912 c = none _

pub returns-then-bits-ge4607182418800017408 : goal.returns-then-bits-ge4607182418800017408
returns-then-bits-ge4607182418800017408 c = none _

pub returns : goal.returns
returns c = λ h. counted _ _ c.if-bits-lt4602678819172646912.false c.if-bits-ge4607182418800017408.false (back _ c.well_formed.0.1)
