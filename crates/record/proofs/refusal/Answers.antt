-- `record::refusal` meets its contract: either return is a case of the definition. Assumes nothing.
use borrow.Author.Tests.{le-leb, lt-leb}
use Rattle.record.specs.Record.{refusal}
use Rattle.record.proofs.refusal.Goals as goal

pub returns-then-number-le9 : goal.returns-then-number-le9
unfolding refusal
returns-then-number-le9 c = rw (c.put_head.ensures, le-leb _ _ c.if-number-le9.true)

pub returns : goal.returns
unfolding refusal
returns c = rw (c.put_head-2.ensures, lt-leb _ _ c.if-number-le9.false)
