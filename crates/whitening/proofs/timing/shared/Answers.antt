-- `whitening::timing::shared` meets its contract. By whether a is b. Assumes nothing.
use native.Mathlib.Omega.{arith}
use borrow.Author.Tests.{eq-eqb, ne_eqb}
use Rattle.dense.proofs.Places.{room}
use Rattle.whitening.specs.Covariance.{shared}
use Rattle.whitening.proofs.timing.shared.Goals as goal

pub at-value-requires : goal.at-value-requires
at-value-requires c = omega (arith, room c.args.n (omega arith))

pub returns-then-a-b : goal.returns-then-a-b
unfolding shared
returns-then-a-b c = rw (eq-eqb _ _ c.if-a-b.true, c.at-value.ensures)

pub returns : goal.returns
unfolding shared
returns c = rw (ne_eqb _ _ c.if-a-b.false, c.at-value.ensures)
