-- `record::put_three` meets its contract: three stores in turn. Assumes nothing.
use Rattle.record.proofs.put_three.Goals as goal

pub returns : goal.returns
returns c = rw (c.put_f64-3.ensures, c.put_f64-2.ensures, c.put_f64.ensures)
