-- `starts::bancroft::pseudo` meets its contract: `solve` ensures the solution, and the last component turns its sign. Assumes nothing.
use Rattle.starts.specs.Bancroft.{pseudo}
use Rattle.starts.proofs.bancroft.pseudo.Goals as goal

pub returns : goal.returns
unfolding pseudo
returns c = rw (← c.solve.ensures)
