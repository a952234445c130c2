-- `starts::start_height` meets its contract: each arm gives the case of the definition that it matches. Assumes nothing.
use Rattle.starts.proofs.Constants.{nine-thousand}
use Rattle.starts.proofs.start_height.Goals as goal

pub returns-in-None : goal.returns-in-None
returns-in-None c = rw (c.in-None.is, nine-thousand)
