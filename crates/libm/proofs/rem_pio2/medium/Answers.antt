-- `libm::rem_pio2::medium` meets its contract: each return is one case of the definition. Assumes nothing.
use Rattle.std.proofs.Common.{eq-eqb, ne_eqb, le-leb}
use borrow.Author.Tests.{lt-leb}
use Rattle.libm.specs.RemPio2.{medium}
use Rattle.libm.proofs.rem_pio2.medium.Goals as goal

pub returns-then-high-npio2_hw : goal.returns-then-high-npio2_hw
unfolding medium
returns-then-high-npio2_hw c =
    rw (← c.whole-n.ensures, ← c.nearest_u64_to_f64-f.ensures, ← c.high.ensures)
    (rw (← c.npio2_hw.ensures, ne_eqb _ _ c.if-high-npio2_hw.true, ← c.split.ensures))

pub returns-then-lost-le16 : goal.returns-then-lost-le16
unfolding medium
returns-then-lost-le16 c =
    rw (← c.whole-n.ensures, ← c.nearest_u64_to_f64-f.ensures)
    (rw (← c.high.ensures, ← c.npio2_hw.ensures, eq-eqb _ _ c.if-high-npio2_hw.false)
    (rw (← c.lost.ensures, le-leb _ _ c.if-lost-le16.true, ← c.split-then-lost-le16.ensures)))

pub returns-then-lost-le49 : goal.returns-then-lost-le49
unfolding medium
returns-then-lost-le49 c =
    rw (← c.whole-n.ensures, ← c.nearest_u64_to_f64-f.ensures)
    (rw (← c.high.ensures, ← c.npio2_hw.ensures, eq-eqb _ _ c.if-high-npio2_hw.false)
    (rw (← c.lost.ensures, lt-leb _ _ c.if-lost-le16.false, ← c.stage-p.ensures)
    (rw (← c.lost-2.ensures, le-leb _ _ c.if-lost-le49.true, ← c.split-then-lost-le49.ensures))))

pub returns : goal.returns
unfolding medium
returns c =
    rw (← c.whole-n.ensures, ← c.nearest_u64_to_f64-f.ensures, ← c.high.ensures)
    (rw (← c.npio2_hw.ensures, eq-eqb _ _ c.if-high-npio2_hw.false, ← c.lost.ensures)
    (rw (lt-leb _ _ c.if-lost-le16.false, ← c.stage-p.ensures, ← c.lost-2.ensures)
    (rw (lt-leb _ _ c.if-lost-le49.false, ← c.stage-q.ensures, ← c.split-2.ensures))))
