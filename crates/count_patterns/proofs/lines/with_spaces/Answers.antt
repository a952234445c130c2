-- `count_patterns::lines::with_spaces` meets its contract. Its tests are those of the definition.
use native.Mathlib.Omega.{arith}
use borrow.Author.Tests.{lt-ltb, le-ltb}
use Rattle.count_patterns.specs.Lines.{spaces}
use Rattle.count_patterns.proofs.lines.with_spaces.Goals as goal

pub returns-then-x-lt10 : goal.returns-then-x-lt10
unfolding spaces
returns-then-x-lt10 c = (rw (lt-ltb c.args.x 10 c.if-x-lt10.true) c.with.ensures.0, c.with.ensures.1, omega arith)

pub returns-then-x-lt100 : goal.returns-then-x-lt100
unfolding spaces
returns-then-x-lt100 c = (
  rw (le-ltb c.args.x 10 c.if-x-lt10.false, lt-ltb c.args.x 100 c.if-x-lt100.true) c.with-then-x-lt100.ensures.0,
  c.with-then-x-lt100.ensures.1,
  omega arith,
)

pub returns-then-x-lt1000 : goal.returns-then-x-lt1000
unfolding spaces
returns-then-x-lt1000 c = (
  rw (
    le-ltb c.args.x 10 c.if-x-lt10.false,
    le-ltb c.args.x 100 c.if-x-lt100.false,
    lt-ltb c.args.x 1000 c.if-x-lt1000.true,
  ) c.with-then-x-lt1000.ensures.0,
  c.with-then-x-lt1000.ensures.1,
  omega arith,
)

pub returns-then-x-lt10000 : goal.returns-then-x-lt10000
unfolding spaces
returns-then-x-lt10000 c = (
  rw (
    le-ltb c.args.x 10 c.if-x-lt10.false,
    le-ltb c.args.x 100 c.if-x-lt100.false,
    le-ltb c.args.x 1000 c.if-x-lt1000.false,
    lt-ltb c.args.x 10000 c.if-x-lt10000.true,
  ) c.with-then-x-lt10000.ensures.0,
  c.with-then-x-lt10000.ensures.1,
  omega arith,
)

pub returns : goal.returns
unfolding spaces
returns c = (
  rw (
    le-ltb c.args.x 10 c.if-x-lt10.false,
    le-ltb c.args.x 100 c.if-x-lt100.false,
    le-ltb c.args.x 1000 c.if-x-lt1000.false,
    le-ltb c.args.x 10000 c.if-x-lt10000.false,
  ) c.with-2.ensures.0,
  c.with-2.ensures.1,
  omega arith,
)
