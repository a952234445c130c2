-- `libm::hypotenuse::ordered` meets its contract: the returns are its two cases, and the test orders the words. Assumes nothing.
use Rattle.std.proofs.Common.{arith, le-ltb, lt-ltb}
use Rattle.binary64.proofs.Patterns.{no_nan}
use Rattle.libm.proofs.hypotenuse.ordered.Goals as goal

pub float_from_bits-q : goal.float_from_bits-q
float_from_bits-q c = no_nan _ (omega arith)

pub float_from_bits-p : goal.float_from_bits-p
float_from_bits-p c = no_nan _ (omega arith)

pub returns-then-hq-hp : goal.returns-then-hq-hp
returns-then-hq-hp c = rw (lt-ltb _ _ c.if-hq-hp.true) c.scaled.ensures

pub float_from_bits-p-2 : goal.float_from_bits-p-2
float_from_bits-p-2 c = no_nan _ (omega arith)

pub float_from_bits-q-2 : goal.float_from_bits-q-2
float_from_bits-q-2 c = no_nan _ (omega arith)

pub returns : goal.returns
returns c = rw (le-ltb _ _ c.if-hq-hp.false) c.scaled-2.ensures
