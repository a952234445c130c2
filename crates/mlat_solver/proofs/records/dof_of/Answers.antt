-- `mlat_solver::records::dof_of` meets its contract. Either return is a case of the definition. Assumes nothing.
use borrow.Author.Tests.{eq-eqb, ne_eqb}
use Rattle.mlat_solver.proofs.records.dof_of.Goals as goal

pub returns-then-answer-eq0 : goal.returns-then-answer-eq0
returns-then-answer-eq0 c = rw (eq-eqb _ _ c.if-answer-eq0.true)

pub returns : goal.returns
returns c = rw (ne_eqb _ _ c.if-answer-eq0.false)
