-- `libm::words::word` meets its contract: up to an infinity's high word the bits are no not-a-number's (`no_nan`). Assumes nothing.
use Rattle.std.proofs.Common.{arith}
use Rattle.binary64.proofs.Patterns.{no_nan}
use Rattle.libm.proofs.words.word.Goals as goal

pub float_from_bits-result : goal.float_from_bits-result
float_from_bits-result c = no_nan _ (omega arith)
