-- `words::f64_at` meets its contract: it reads the bits of the word. Assumes nothing.
use Rattle.words.specs.Words.{f64_at}
use Rattle.words.proofs.f64_at.Goals as goal

pub returns : goal.returns
unfolding f64_at
returns c = rw (c.from_bits.ensures, c.u64_at.ensures)
