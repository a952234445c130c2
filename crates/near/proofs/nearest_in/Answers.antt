-- `near::nearest_in` meets its contract: the test is the definition's, and n records are 176 * n bytes. Assumes nothing.
use Rattle.std.proofs.Common.{eq-eqb, ne_eqb}
use Rattle.near.specs.Parts.{nearest_in}
use Rattle.near.proofs.nearest_in.Goals as goal

pub returns-then-part-ne0 : goal.returns-then-part-ne0
unfolding nearest_in
returns-then-part-ne0 c = rw (ne_eqb _ 0 c.if-part-ne0.true) c.none.ensures

pub returns : goal.returns
unfolding nearest_in
returns c = rw (eq-eqb _ 0 c.if-part-ne0.false) c.hold.ensures
