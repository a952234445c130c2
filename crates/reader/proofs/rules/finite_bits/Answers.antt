-- `reader::rules::finite_bits` meets its contract: binary64's law `finite-bits`. Assumes nothing.
use Rattle.binary64.proofs.Fields.{finite-bits}
use Rattle.reader.proofs.rules.finite_bits.Goals as goal

pub returns : goal.returns
returns c = finite-bits _
