-- `words::u16_at` meets its contract: the library's bytes are the word's. Assumes nothing.
use native.Mathlib.Omega.{arith}
use Rattle.words.specs.Words.{word_at, u16_at}
use Rattle.words.proofs.u16_at.Goals as goal

pub returns : goal.returns
unfolding u16_at word_at
returns c = let e = c.from_le_bytes.ensures in omega arith
