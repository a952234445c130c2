-- `sets::joined` meets its contract: an `or` with one bit adds that bit's reception (`has-joined`). Assumes nothing.
use Rattle.sets.proofs.Masks.{has-joined, joined-lt}
use Rattle.sets.proofs.joined.Goals as goal

pub returns : goal.returns
returns c = (has-joined c.args.mask c.args.i c.requires, joined-lt c.args.mask c.args.i c.requires)
