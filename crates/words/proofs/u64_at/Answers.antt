-- `words::u64_at` meets its contract: the library's bytes are the word's (`read_8`). Assumes nothing.
use native.Mathlib.Omega.{arith}
use Rattle.words.specs.Words.{u64_at}
use Rattle.words.proofs.Bytes.{read_8}
use Rattle.words.proofs.u64_at.Goals as goal

pub returns : goal.returns
unfolding u64_at
returns c = let e = c.from_le_bytes.ensures in let r = read_8 c.args.s.now c.args.k in omega arith
