-- `words::u32_at` meets its contract: the library's bytes are the word's (`read_4`). Assumes nothing.
use native.Mathlib.Omega.{arith}
use Rattle.words.specs.Words.{u32_at}
use Rattle.words.proofs.Bytes.{read_4}
use Rattle.words.proofs.u32_at.Goals as goal

pub returns : goal.returns
unfolding u32_at
returns c = let e = c.from_le_bytes.ensures in let r = read_4 c.args.s.now c.args.k in omega arith
