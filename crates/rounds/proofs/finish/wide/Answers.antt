-- `rounds::finish::wide` meets its contract: the three tests, one after the other. Assumes nothing.
use Rattle.rounds.specs.Finish.{wide, max_variance_m2}
use Rattle.rounds.proofs.Certainty.{most}
use Rattle.rounds.proofs.finish.wide.Goals as goal

pub returns-then-c : goal.returns-then-c
unfolding wide max_variance_m2
returns-then-c c = rw (most, c.if-c.true)

pub returns-then-c-2 : goal.returns-then-c-2
unfolding wide max_variance_m2
returns-then-c-2 c = rw (most, c.if-c.false, c.if-c-2.true)

pub returns : goal.returns
unfolding wide max_variance_m2
returns c = rw (most, c.if-c.false, c.if-c-2.false)
