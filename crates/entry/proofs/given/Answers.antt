-- `entry::given` meets its contract: a test for each bit. Assumes nothing.
use Rattle.entry.proofs.given.Goals as goal

pub returns : goal.returns
returns c = rw (c.has.ensures, c.has-2.ensures, c.has-3.ensures)
