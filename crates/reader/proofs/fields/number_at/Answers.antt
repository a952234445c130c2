-- `reader::fields::number_at` meets its contract: the bits are those of no not-a-number (`finite-pattern`). Assumes nothing.
use Rattle.words.specs.Words.{f64_at}
use Rattle.reader.proofs.Copied.{finite-pattern}
use Rattle.reader.proofs.fields.number_at.Goals as goal

pub float_from_bits-result : goal.float_from_bits-result
unfolding f64_at
float_from_bits-result c = rw c.u64_at.ensures (finite-pattern _ c.requires.1)

pub returns : goal.returns
unfolding f64_at
returns c = rw c.u64_at.ensures
