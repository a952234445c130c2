-- `why::put_state` meets its contract: the rows are written in turn. Assumes nothing.
use mathlib.Core.Path.{◌∙◌}
use Rattle.why.proofs.put_state.Goals as goal

pub returns : goal.returns
returns c =
    c.put_f64.ensures
    ∙ rw (
      c.residual_in.ensures,
      c.put_u32-3.ensures,
      c.clashes_in.ensures,
      c.put_u32-2.ensures,
      c.turn_in.ensures,
      c.put_u32.ensures,
      c.number_of.ensures,
    )
