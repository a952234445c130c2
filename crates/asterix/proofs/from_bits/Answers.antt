-- `asterix::from_bits` meets its contract: from the sign on the number is -1 less what the word lacks of its greatest value (`from-minus`).
-- Assumes nothing.
use Rattle.asterix.proofs.Signs.{from-plus, from-minus, from-minus-fits}
use Rattle.asterix.proofs.from_bits.Goals as goal

pub returns-then-n-half : goal.returns-then-n-half
returns-then-n-half c = from-plus _ _ c.requires.0 c.requires.1 c.if-n-half.true

pub overflow_sub-result : goal.overflow_sub-result
overflow_sub-result c = from-minus-fits _ _ c.requires.0 c.requires.1 c.if-n-half.false

pub returns : goal.returns
returns c = from-minus _ _ c.requires.0 c.requires.1 c.if-n-half.false
