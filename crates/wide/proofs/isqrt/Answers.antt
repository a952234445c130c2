-- `wide::isqrt` meets its contract: only the floored root has the squares around the value (`floored-unique`). Assumes nothing.
use Rattle.wide.proofs.Floor.{floored-unique}
use Rattle.wide.proofs.isqrt.Goals as goal

pub returns : goal.returns
returns c = floored-unique c.args.value c.isqrt.result (c.isqrt.ensures.square_le, c.isqrt.ensures.next_square_gt)
