-- `libm::trig::sin` meets its contract: each return is one case of the definition, and 0 / 0 is not-a-number (`zero_by_zero`). Assumes nothing.
use Rattle.std.proofs.Common.{le-leb}
use borrow.Author.Tests.{lt-leb}
use Rattle.libm.specs.Trig.{sin}
use Rattle.binary64.proofs.Patterns.{zero_by_zero}
use Rattle.libm.proofs.Limit.{by-limit}
use Rattle.libm.proofs.trig.sin.Goals as goal

pub returns-then-high-le1072243195 : goal.returns-then-high-le1072243195
unfolding sin
returns-then-high-le1072243195 c = rw (← c.high.ensures, le-leb _ _ c.if-high-le1072243195.true, ← c.k_sin.ensures)

pub returns-then-t : goal.returns-then-t
unfolding sin
returns-then-t c =
    rw (← c.high.ensures, lt-leb _ _ c.if-high-le1072243195.false, ← c.abs-t.ensures, by-limit _ _ c.if-t.true)
    (rw (c.signed.ensures, c.sin_of.ensures, c.rem_pio2.ensures))

pub returns : goal.returns
unfolding sin
returns c = rw (
  ← c.high.ensures,
  lt-leb _ _ c.if-high-le1072243195.false,
  ← c.abs-t.ensures,
  by-limit _ _ c.if-t.false,
) zero_by_zero
