-- `wire::magnitude` meets its contract: below 2 ^ -25 a value is less than half a unit (`small`); from there on the product by the unit, doubled, is
-- cut to a whole number, one added and halved (`large`). Assumes nothing.
use mathlib.Core.Path.{refl}
use native.Mathlib.Nat.{mod-lt}
use native.Mathlib.Omega.{arith}
use Prim.Native.Nat.{◌*◌, ◌/◌, ◌%◌, ◌+◌, ◌^◌}
use lib.Pow.{pow_pos}
use Rattle.wire.proofs.Scaled.{small, large}
use Rattle.wire.proofs.magnitude.Goals as goal

pub returns-then-e-lt998 : goal.returns-then-e-lt998
returns-then-e-lt998 c = small _ _ _ c.requires.1 c.if-e-lt998.true (mod-lt _ (pow_pos 52))

pub returns : goal.returns
returns c = λ s.
    let r = c.args.rest in
    let n = (r % 2 ^ 52 + 2 ^ 52) * c.args.unit in
    large c.args.unit (r / 2 ^ 52) (r % 2 ^ 52) n (omega arith) (omega arith) refl s
