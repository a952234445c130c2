-- `words::put_f64` meets its contract: it writes the bits of x. Assumes nothing.
use Rattle.words.specs.Words.{put_f64}
use Rattle.words.proofs.put_f64.Goals as goal

pub returns : goal.returns
unfolding put_f64
returns c = rw (c.put_u64.ensures, c.to_bits.ensures)
