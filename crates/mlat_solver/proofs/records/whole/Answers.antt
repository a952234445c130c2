-- `mlat_solver::records::whole` meets its contract. Each return is a case of the definition. Assumes nothing.
use borrow.Author.Tests.{eq-eqb, ne_eqb, le-leb, lt-leb}
use Rattle.mlat_solver.specs.Records.{whole}
use Rattle.mlat_solver.proofs.records.whole.Goals as goal

pub returns-then-words-version : goal.returns-then-words-version
unfolding whole
returns-then-words-version c = rw (← c.version_of-version.ensures, ne_eqb _ _ c.if-words-version.true)

pub returns-then-kind-gt2 : goal.returns-then-kind-gt2
unfolding whole
returns-then-kind-gt2 c = rw (← c.version_of-version.ensures, eq-eqb _ _ c.if-words-version.false, lt-leb _ _ c.if-kind-gt2.true)

pub returns-then-kind-ne0 : goal.returns-then-kind-ne0
unfolding whole
returns-then-kind-ne0 c =
    let kind = c.if-kind-gt2.false in
    rw (← c.version_of-version.ensures, eq-eqb _ _ c.if-words-version.false, le-leb _ _ kind, ne_eqb _ _ c.if-kind-ne0.true)

pub returns : goal.returns
unfolding whole
returns c =
    let kind = c.if-kind-gt2.false in
    let metres = c.to_bits-metres.ensures in
    rw (← c.version_of-version.ensures, eq-eqb _ _ c.if-words-version.false, le-leb _ _ kind, eq-eqb _ _ c.if-kind-ne0.false, metres)
