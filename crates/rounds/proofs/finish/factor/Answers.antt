-- `rounds::finish::factor` meets its contract, by its one call. Assumes nothing.
use Rattle.rounds.proofs.finish.factor.Goals as goal

pub returns : goal.returns
returns c = c.cholesky.ensures
