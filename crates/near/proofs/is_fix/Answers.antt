-- `near::is_fix` meets its contract. By the definition. Assumes nothing.
use Rattle.near.specs.Near.{is_fix}
use Rattle.near.proofs.is_fix.Goals as goal

pub returns : goal.returns
unfolding is_fix
returns c = rw c.u32_at.ensures
