-- `words::i64_at` meets its contract: it reads the word in two's complement. Assumes nothing.
use native.Mathlib.Omega.{arith}
use Rattle.std.specs.Int.{w64}
use Rattle.std.proofs.lemmas.Int.{of_z-to_z}
use Rattle.words.specs.Words.{i64_at}
use Rattle.words.proofs.i64_at.Goals as goal

pub returns : goal.returns
unfolding i64_at
returns c = rw (c.cast_signed.ensures, of_z-to_z w64 c.u64_at.result (omega arith), c.u64_at.ensures)
