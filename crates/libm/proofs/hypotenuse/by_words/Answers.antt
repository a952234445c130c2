-- `libm::hypotenuse::by_words` meets its contract: the returns are the two cases of the definition, and the test orders the words. Assumes nothing.
use Rattle.std.proofs.Common.{le-ltb, lt-ltb}
use Rattle.libm.specs.Hypotenuse.{hypot}
use Rattle.libm.proofs.hypotenuse.by_words.Goals as goal

pub returns-then-hb-ha : goal.returns-then-hb-ha
unfolding hypot
returns-then-hb-ha c =
    rw (← c.high-ha.ensures, ← c.high-hb.ensures, lt-ltb _ _ c.if-hb-ha.true)
    (rw (← c.abs.ensures, ← c.abs-then-hb-ha.ensures, ← c.scaled.ensures))

pub returns : goal.returns
unfolding hypot
returns c =
    rw (← c.high-ha.ensures, ← c.high-hb.ensures, le-ltb _ _ c.if-hb-ha.false)
    (rw (← c.abs-2.ensures, ← c.abs-3.ensures, ← c.scaled-2.ensures))
