-- `libm::atan::atan_unsigned` meets its contract: each return is one case of the definition, in which `abs a` is a and a is not negative
-- (`not_negative`). Assumes nothing.
use Rattle.std.proofs.Common.{le-ltb, lt-ltb, le-leb}
use borrow.Author.Tests.{lt-leb}
use Rattle.libm.specs.Words.{signed}
use Rattle.libm.specs.Atan.{atan}
use Rattle.libm.proofs.Unsigned.{not_negative}
use Rattle.libm.proofs.atan.atan_unsigned.Goals as goal

pub returns-then-a : goal.returns-then-a
unfolding atan
returns-then-a c = rw (← c.high-ia.ensures, le-leb _ _ c.if-ia-ge1141899264.true, c.if-a.true)

pub returns-then-ia-ge1141899264 : goal.returns-then-ia-ge1141899264
unfolding atan
returns-then-ia-ge1141899264 c =
    rw (← c.high-ia.ensures, le-leb _ _ c.if-ia-ge1141899264.true, c.if-a.false, not_negative _ c.well_formed.0.1 c.requires)

pub returns-then-ia-lt1071382528 : goal.returns-then-ia-lt1071382528
unfolding atan
returns-then-ia-lt1071382528 c =
    rw (← c.high-ia.ensures, lt-leb 0x44100000 _ c.if-ia-ge1141899264.false, lt-ltb _ 0x3fdc0000 c.if-ia-lt1071382528.true) c.small.ensures

pub returns : goal.returns
unfolding atan signed
returns c =
    rw (← c.high-ia.ensures, lt-leb 0x44100000 _ c.if-ia-ge1141899264.false, le-ltb _ 0x3fdc0000 c.if-ia-lt1071382528.false)
    (rw (not_negative _ c.well_formed.0.1 c.requires, c.requires, ← c.reduce.ensures) c.whole_arc.ensures)
