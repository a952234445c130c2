-- `asterix::of_wire` meets its contract: each multiple is an i32 (`back`). Assumes nothing.
use mathlib.Core.Path.{ap, ◌∙◌}
use Rattle.asterix.proofs.Signs.{back}
use Rattle.asterix.proofs.Arms.{of-wire}
use Rattle.asterix.specs.Multiples.{angle, level, turned}
use Rattle.asterix.proofs.of_wire.Goals as goal

pub returns : goal.returns
returns c =
    let w = c.args.w in
    of-wire w
    (back c.angle.type_inv ∙ c.angle.ensures ∙ ap angle (back {x = w.lat} c.struct_told-1.given.0.1))
    (back c.turned.type_inv ∙ c.turned.ensures
    ∙ ap turned (back c.angle-2.type_inv ∙ c.angle-2.ensures ∙ ap angle (back {x = w.lon} c.struct_told-2-1.given.1.0.1)))
    (back c.level.type_inv ∙ c.level.ensures ∙ ap level (back {x = w.height} c.struct_told-3-1.given.1.1.0.1))
