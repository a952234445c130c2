-- `asterix::put_four` meets its contract: its two halves, the higher first. Assumes nothing.
use mathlib.Core.Path.{◌∙◌}
use Rattle.asterix.proofs.put_four.Goals as goal

pub returns : goal.returns
returns c = c.put_two-2.ensures ∙ rw c.put_two.ensures
