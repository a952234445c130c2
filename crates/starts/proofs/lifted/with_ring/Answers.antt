-- `starts::lifted::with_ring` meets its contract: two circles, one behind the other (`packed-append`). Assumes nothing.
use Rattle.std.proofs.Common.{sym, ◌∙◌}
use Rattle.starts.specs.Lifted.{ring}
use Rattle.starts.proofs.Constants.{near-radius, far-radius}
use Rattle.starts.proofs.Packed.{packed-append}
use Rattle.starts.proofs.lifted.with_ring.Goals as goal

pub returns : goal.returns
unfolding ring
returns c = c.with_circle.ensures ∙ rw (c.with_circle-near.ensures, near-radius, far-radius) (sym (packed-append _ _ _))
