-- `reader::rules::zeros`: after i turns the answer is that of the first i bytes of the part.
use Rattle.std.proofs.Common.{◌≡◌}
use Rattle.reader.specs.Tests.{zeros}
use Rattle.reader.proofs.rules.zeros.Given as goal

abbrev pub invariant-loop-byte : goal.invariant-loop-byte
invariant-loop-byte l = l.good ≡ zeros l.s l.k l.byte-index
