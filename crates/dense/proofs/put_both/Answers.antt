-- `dense::put_both` meets its contract. It is what the second `put` ensures of what the first ensures. Assumes nothing.
use Rattle.dense.proofs.put_both.Goals as goal

pub returns : goal.returns
returns c = rw (c.put-2.ensures, c.put.ensures)
