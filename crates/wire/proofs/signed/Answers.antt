-- `wire::signed` meets its contract: a size below 2 ^ 31 fits an i32 with either sign (`minus`, `signed-fits`). Assumes nothing.
use mathlib.Core.Path.{ap, ◌∙◌}
use mathlib.Core.Bool.{true}
use lib.IntN.{ℤ}
use mir.Syntax.{w32}
use mir.Val.{to_z, of_z}
use mir.ValLaws.{to_z_pos, to_z-of_z}
use Rattle.wire.specs.Nearest.{signed}
use Rattle.wire.proofs.Words.{sized, minus, signed-fits}
use Rattle.wire.proofs.signed.Goals as goal

pub overflow_sub-result : goal.overflow_sub-result
overflow_sub-result c = rw (minus _ c.requires) (signed-fits true _ c.requires)

pub returns-then-minus : goal.returns-then-minus
returns-then-minus c =
    let n = c.args.size in
    let small = c.requires in
    sized n (ap (λ (z : ℤ). to_z w32 (of_z w32 z)) (minus n small) ∙ to_z-of_z w32 (signed true n) (signed-fits true n small)) c.if-minus.true

pub returns : goal.returns
returns c = sized c.args.size (to_z_pos w32 _ c.requires) c.if-minus.false
