-- `libm::atan::atan` meets its contract: each return is one case of the definition. Assumes nothing.
use Rattle.std.proofs.Common.{le-ltb, lt-ltb, le-leb}
use borrow.Author.Tests.{lt-leb}
use Rattle.libm.specs.Atan.{atan}
use Rattle.libm.proofs.atan.atan.Goals as goal

pub returns-then-x : goal.returns-then-x
unfolding atan
returns-then-x c = rw (← c.high-ix.ensures, le-leb _ _ c.if-ix-ge1141899264.true, c.if-x.true)

pub returns-then-negative : goal.returns-then-negative
unfolding atan
returns-then-negative c =
    rw (← c.high-ix.ensures, le-leb _ _ c.if-ix-ge1141899264.true, c.if-x.false, ← c.negative.ensures)
    (rw c.if-negative.true)

pub returns-then-ix-ge1141899264 : goal.returns-then-ix-ge1141899264
unfolding atan
returns-then-ix-ge1141899264 c =
    rw (← c.high-ix.ensures, le-leb _ _ c.if-ix-ge1141899264.true, c.if-x.false, ← c.negative.ensures, c.if-negative.false)

pub returns-then-ix-lt1071382528 : goal.returns-then-ix-lt1071382528
unfolding atan
returns-then-ix-lt1071382528 c =
    rw (← c.high-ix.ensures, lt-leb _ _ c.if-ix-ge1141899264.false, lt-ltb _ _ c.if-ix-lt1071382528.true) c.small.ensures

pub returns : goal.returns
unfolding atan
returns c =
    rw (← c.high-ix.ensures, lt-leb _ _ c.if-ix-ge1141899264.false, le-ltb _ _ c.if-ix-lt1071382528.false)
    (rw (← c.abs.ensures, ← c.reduce.ensures, ← c.whole_arc-z.ensures, ← c.signed.ensures))
