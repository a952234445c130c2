-- `asterix::level` meets its contract: the nearest multiple, which an i32 holds. Assumes nothing.
use mir.Syntax.{w32}
use mir.ValLaws.{to_z-of_z}
use mathlib.Core.Path.{ap, ◌∙◌}
use lib.IntN.{ℤ, pos, ◌*ℤ◌}
use Rattle.wire.specs.Nearest.{nearest}
use Rattle.asterix.proofs.Rounding.{once}
use Rattle.asterix.proofs.Signs.{back}
use Rattle.asterix.specs.Multiples.{level}
use Rattle.asterix.proofs.level.Goals as goal

pub returns : goal.returns
unfolding level
returns c =
    let mm = c.args.mm in
    back c.nearest.type_inv ∙ c.nearest.ensures
    ∙ ap (λ (z : ℤ). nearest z 1905) (ap (λ (z : ℤ). z *ℤ pos 1) (to_z-of_z w32 mm c.ranges.mm) ∙ once mm)
