-- `find_fixes::worse` meets its contract: the test is the definition's. Assumes nothing.
use Rattle.std.proofs.Common.{eq-eqb, ne_eqb}
use Rattle.find_fixes.proofs.worse.Goals as goal

pub returns-then-refusal-ne0 : goal.returns-then-refusal-ne0
returns-then-refusal-ne0 c = rw (ne_eqb _ 0 c.if-refusal-ne0.true)

pub returns : goal.returns
returns c = rw (eq-eqb _ 0 c.if-refusal-ne0.false)
