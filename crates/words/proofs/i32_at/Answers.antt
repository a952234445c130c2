-- `words::i32_at` meets its contract: it reads the word in two's complement. Assumes nothing.
use native.Mathlib.Omega.{arith}
use Rattle.std.specs.Int.{w32}
use Rattle.std.proofs.lemmas.Int.{of_z-to_z}
use Rattle.words.specs.Words.{i32_at}
use Rattle.words.proofs.i32_at.Goals as goal

pub returns : goal.returns
unfolding i32_at
returns c = rw (c.cast_signed.ensures, of_z-to_z w32 c.u32_at.result (omega arith), c.u32_at.ensures)
