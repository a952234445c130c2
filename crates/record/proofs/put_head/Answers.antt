-- `record::put_head` meets its contract: the rows are written in turn. Assumes nothing.
use Rattle.record.proofs.put_head.Goals as goal

pub returns : goal.returns
returns c = rw (c.put_u32-3.ensures, c.put_u32-2.ensures, c.put_u32.ensures)
