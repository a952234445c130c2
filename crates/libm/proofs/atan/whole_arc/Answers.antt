-- `libm::atan::whole_arc` meets its contract: the steps are the contract's. Assumes nothing.
use Rattle.libm.proofs.atan.whole_arc.Goals as goal

pub returns : goal.returns
returns c = rw c.series.ensures
