-- `words::put_i64` meets its contract: it writes the bits of two's complement. Assumes nothing.
use mir.Syntax.{w64}
use mir.ValLaws.{to_z-of_z}
use Rattle.words.specs.Words.{put_i64}
use Rattle.words.proofs.put_i64.Goals as goal

pub returns : goal.returns
unfolding put_i64
returns c = rw (c.put_u64.ensures, c.cast_unsigned.ensures, to_z-of_z w64 c.args.x c.ranges.x)
