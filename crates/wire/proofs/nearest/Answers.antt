-- `wire::nearest` meets its contract: the size comes from the bits below the sign (`bits-low`), and the sign is the highest bit (`of-bits`).
-- Assumes nothing.
use mathlib.Core.Path.{◌≡◌, sym, ap, subst, ◌∙◌}
use Prim.Native.Nat.{ℕ, ◌*◌, ◌%◌, ◌<◌, ◌^◌}
use lib.Dec.{leb}
use Rattle.wire.specs.Nearest.{signed}
use Rattle.wire.specs.Wire.{in_units}
use Rattle.wire.proofs.Distance.{size}
use Rattle.wire.proofs.Words.{held}
use Rattle.wire.proofs.Reach.{bits-low, with_sign, of-bits}
use Rattle.wire.proofs.nearest.Goals as goal

pub magnitude-requires : goal.magnitude-requires
magnitude-requires c =
    (subst (λ (b : ℕ). b % 2 ^ 63 < 1038 * 2 ^ 52) (sym c.bits_of-bits.ensures) (bits-low _ c.well_formed.0.1 c.requires.0), c.requires.1)

-- the sign and the size
found
    : (c : goal.After-magnitude)
    → signed (leb (2 ^ 63) c.bits_of-bits.result) c.magnitude.result ≡ in_units c.args.unit c.args.x
found c =
    let b = c.bits_of-bits.result in
    let s = leb (2 ^ 63) b in
    let e = c.bits_of-bits.ensures in
    sym (c.magnitude.ensures s)
    ∙ ap (in_units c.args.unit) (ap (λ (b : ℕ). with_sign b s) e ∙ of-bits c.args.x s c.well_formed.0.1 (ap (leb (2 ^ 63)) (sym e)))

small : (c : goal.After-magnitude) → c.magnitude.result < 2 ^ 31
small c = rw (← found c, size _ c.magnitude.result) at c.requires.2

pub signed-requires : goal.signed-requires
signed-requires c = small c

pub returns : goal.returns
returns c = held (c.signed.ensures ∙ found c.before) c.requires.2
