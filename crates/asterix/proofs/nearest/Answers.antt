-- `asterix::nearest` meets its contract: size and sign apart (`by_sign`); the bounds keep every step within its word (`room`, `halved`).
-- Assumes nothing.
use mathlib.Core.Path.{◌≡◌, ◌∙◌}
use Prim.Native.Nat.{◌*◌, ◌≤◌, ◌^◌}
use native.Mathlib.Omega.{arith}
use mir.Syntax.{w32}
use mir.Val.{to_z, of_z}
use mir.ValLaws.{to_z-of_z}
use Rattle.asterix.proofs.Signs.{back, by_sign}
use Rattle.asterix.proofs.Rounding.{room, halved}
use Rattle.asterix.proofs.nearest.Goals as goal

fitting : (c : goal.After-size) → c.size.result * c.args.times ≤ 2 ^ 31 * 2 ^ 31
fitting c = room _ _ _ c.size.ensures.1 c.requires.0 c.requires.2

pub overflow_mul-size : goal.overflow_mul-size
overflow_mul-size c = omega (arith, fitting c)

pub rounded-requires : goal.rounded-requires
rounded-requires c = (omega (arith, fitting c), c.requires.1, c.requires.2)

pub signed-requires : goal.signed-requires
signed-requires c =
    rw c.rounded.ensures (halved _ _ _ c.size.ensures.1 c.requires.0 c.requires.1)

pub returns : goal.returns
returns c =
    let w = c.args.w in
    let same : to_z w32 (of_z w32 w) ≡ w = to_z-of_z w32 w c.ranges.w in
    back c.signed.type_inv ∙ c.signed.ensures
    ∙ rw (c.rounded.ensures, c.size.ensures.0, same) (by_sign w c.args.times c.args.den c.requires.1)
