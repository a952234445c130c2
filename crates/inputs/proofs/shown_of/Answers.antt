-- `inputs::shown_of` meets its contract: by whether it is there, and its kind. Assumes nothing.
use borrow.Author.Tests.{eq-eqb, ne_eqb}
use Rattle.inputs.proofs.Steps.{sized-there}
use Rattle.inputs.proofs.shown_of.Goals as goal

pub metres_at-metres-requires : goal.metres_at-metres-requires
metres_at-metres-requires c = sized-there 16 c.args.there c.args.altitude.now c.if-there.true c.requires

pub kind_at-requires : goal.kind_at-requires
kind_at-requires c = sized-there 16 c.args.there c.args.altitude.now c.if-there.true c.requires

pub returns-then-kind_at-eq1 : goal.returns-then-kind_at-eq1
returns-then-kind_at-eq1 c = rw (
  c.if-there.true,
  ← c.metres_at-metres.ensures,
  ← c.kind_at.ensures,
  eq-eqb _ _ c.if-kind_at-eq1.true,
)

pub returns-then-there : goal.returns-then-there
returns-then-there c = rw (
  c.if-there.true,
  ← c.metres_at-metres.ensures,
  ← c.kind_at.ensures,
  ne_eqb _ _ c.if-kind_at-eq1.false,
)
