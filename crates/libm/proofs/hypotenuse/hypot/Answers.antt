-- `libm::hypotenuse::hypot` meets its contract: where the sum of squares is at least 0, x and y are numbers (`first-number`, `second-number`), whose
-- bits below the sign have their magnitudes and high words (`magnitude`, `high_word`). Assumes nothing.
use Rattle.std.proofs.Common.{◌≡◌, ◌/◌, ◌%◌, ◌^◌, true, cond, ltb}
use lib.Ieee.{Float, binary64, fits, to_bits}
use Rattle.binary64.specs.Steps.{#}
use Rattle.binary64.proofs.Patterns.{le-number}
use Rattle.libm.specs.Hypotenuse.{scaled, hypot}
use Rattle.libm.proofs.Magnitudes.{magnitude, high_word, to-infinity, first-number, second-number}
use Rattle.libm.proofs.hypotenuse.hypot.Goals as goal

-- what `ordered` gives of the bits below the sign
lengths
    : (x y : Float) → fits binary64 x ≡ true → fits binary64 y ≡ true
    → let p = to_bits binary64 x % 2 ^ 63 in
    let q = to_bits binary64 y % 2 ^ 63 in
    cond (ltb (p / 2 ^ 32) (q / 2 ^ 32)) (scaled (# q) (# p) (q / 2 ^ 32) (p / 2 ^ 32)) (scaled (# p) (# q) (p / 2 ^ 32) (q / 2 ^ 32)) ≡ hypot x y
unfolding hypot
lengths x y f g = rw (high_word x, high_word y, magnitude x f, magnitude y g)

pub float_to_bits-x : goal.float_to_bits-x
float_to_bits-x c = first-number _ _ (le-number _ _ c.if-near.true)

pub float_to_bits-y : goal.float_to_bits-y
float_to_bits-y c = second-number _ _ (le-number _ _ c.if-near.true)

pub ordered-requires : goal.ordered-requires
ordered-requires c =
    let n = le-number _ _ c.if-near.true in
    let g = c.well_formed in
    (to-infinity _ g.0.1 (first-number _ _ n), to-infinity _ g.1.0.1 (second-number _ _ n))

pub returns-then-near : goal.returns-then-near
returns-then-near c = rw c.ordered.ensures (lengths _ _ c.well_formed.0.1 c.well_formed.1.0.1)
