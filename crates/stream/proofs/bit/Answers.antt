-- `stream::bit` meets its contract: its test is the definition's. Assumes nothing.
use native.Mathlib.Omega.{arith}
use borrow.Author.Tests.{eq-eqb, ne_eqb}
use Rattle.stream.specs.Frames.{absent}
use Rattle.stream.proofs.bit.Goals as goal

pub returns-then-mark-eq-ABSENT : goal.returns-then-mark-eq-ABSENT
returns-then-mark-eq-ABSENT c = (rw (eq-eqb c.args.mark absent c.if-mark-eq-ABSENT.true), omega arith)

pub returns : goal.returns
returns c = (rw (ne_eqb c.args.mark absent c.if-mark-eq-ABSENT.false), omega arith)
