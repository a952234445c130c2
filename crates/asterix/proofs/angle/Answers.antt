-- `asterix::angle` meets its contract: the nearest multiple, which an i32 holds. Assumes nothing.
use mir.Syntax.{w32}
use mir.ValLaws.{to_z-of_z}
use mathlib.Core.Path.{◌∙◌}
use Rattle.asterix.proofs.Signs.{back}
use Rattle.asterix.specs.Multiples.{angle}
use Rattle.asterix.proofs.angle.Goals as goal

pub returns : goal.returns
unfolding angle
returns c = back c.nearest.type_inv ∙ c.nearest.ensures ∙ rw (to_z-of_z w32 c.args.w c.ranges.w)
