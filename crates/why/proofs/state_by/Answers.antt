-- `why::state_by` meets its contract: each test picks the definition's case. Assumes nothing.
use borrow.Author.Tests.{lt-ltb, le-ltb}
use Rattle.why.proofs.state_by.Goals as goal

pub returns-then-used : goal.returns-then-used
returns-then-used c = rw c.if-used.true

pub returns-then-turn-gt0 : goal.returns-then-turn-gt0
returns-then-turn-gt0 c = rw (c.if-used.false, lt-ltb 0 c.args.turn c.if-turn-gt0.true)

pub returns : goal.returns
returns c = rw (c.if-used.false, le-ltb 0 c.args.turn c.if-turn-gt0.false)
