-- `rounds::finish::certain` meets its contract: the variances first, then the Cholesky's verdict. Assumes nothing.
use Rattle.rounds.specs.Finish.{certain}
use Rattle.rounds.proofs.Certainty.{definite-verdict}
use Rattle.rounds.proofs.finish.certain.Goals as goal

pub returns-then-wide : goal.returns-then-wide
unfolding certain
returns-then-wide c = rw (← c.wide.ensures, c.if-wide.true)

pub returns : goal.returns
unfolding certain
returns c = rw (
  ← c.wide.ensures,
  c.if-wide.false,
  ← c.cholesky.ensures,
  definite-verdict,
)
