-- `rounds::finish::covariance` meets its contract, call by call. Assumes nothing.
use Rattle.rounds.proofs.finish.covariance.Goals as goal

pub returns : goal.returns
returns c = rw (← c.inverse.ensures, ← c.published.ensures)
