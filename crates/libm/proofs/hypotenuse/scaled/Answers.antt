-- `libm::hypotenuse::scaled` meets its contract: each return is one case of the definition. The gap is at most 60, so both words are past 0x25800000
-- where a's is past 0x5F300000, and stay far below an infinity's where b's is below 0x20B00000. Assumes nothing.
use Rattle.std.proofs.Common.{le-ltb, lt-ltb, le-leb}
use borrow.Author.Tests.{lt-leb}
use Rattle.libm.specs.Hypotenuse.{scaled}
use Rattle.libm.proofs.hypotenuse.scaled.Goals as goal

pub returns-then-ha-hb-gt62914560 : goal.returns-then-ha-hb-gt62914560
unfolding scaled
returns-then-ha-hb-gt62914560 c = rw (lt-ltb _ _ c.if-ha-hb-gt62914560.true)

pub inf_or_nan-requires : goal.inf_or_nan-requires
inf_or_nan-requires c = tt

pub returns-then-ha-ge2146435072 : goal.returns-then-ha-ge2146435072
unfolding scaled
returns-then-ha-ge2146435072 c =
    rw (le-ltb _ _ c.if-ha-hb-gt62914560.false, lt-ltb _ _ c.if-ha-gt1596981248.true, le-leb _ _ c.if-ha-ge2146435072.true, ← c.inf_or_nan.ensures)

pub returns-then-ha-gt1596981248 : goal.returns-then-ha-gt1596981248
unfolding scaled
returns-then-ha-gt1596981248 c =
    rw (le-ltb _ _ c.if-ha-hb-gt62914560.false, lt-ltb _ _ c.if-ha-gt1596981248.true, lt-leb _ _ c.if-ha-ge2146435072.false, ← c.rescaled.ensures)

pub returns-then-b : goal.returns-then-b
unfolding scaled
returns-then-b c =
    rw (le-ltb _ _ c.if-ha-hb-gt62914560.false, le-ltb _ _ c.if-ha-gt1596981248.false, lt-ltb _ _ c.if-hb-lt548405248.true)
    (rw (le-leb _ _ c.if-hb-le1048575.true, c.if-b.true))

pub returns-then-hb-le1048575 : goal.returns-then-hb-le1048575
unfolding scaled
returns-then-hb-le1048575 c =
    rw (le-ltb _ _ c.if-ha-hb-gt62914560.false, le-ltb _ _ c.if-ha-gt1596981248.false, lt-ltb _ _ c.if-hb-lt548405248.true)
    (rw (le-leb _ _ c.if-hb-le1048575.true, c.if-b.false, c.rescaled-then-hb-le1048575.ensures))

pub returns-then-hb-lt548405248 : goal.returns-then-hb-lt548405248
unfolding scaled
returns-then-hb-lt548405248 c =
    rw (le-ltb _ _ c.if-ha-hb-gt62914560.false, le-ltb _ _ c.if-ha-gt1596981248.false, lt-ltb _ _ c.if-hb-lt548405248.true)
    (rw (lt-leb _ _ c.if-hb-le1048575.false, ← c.rescaled-then-hb-lt548405248.ensures))

pub returns : goal.returns
unfolding scaled
returns c =
    rw (le-ltb _ _ c.if-ha-hb-gt62914560.false, le-ltb _ _ c.if-ha-gt1596981248.false, le-ltb _ _ c.if-hb-lt548405248.false, ← c.medium.ensures)
