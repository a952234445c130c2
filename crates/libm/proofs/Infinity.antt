-- The infinity, which the code has as a quotient, since no constant may be one. Assumes nothing.
use Rattle.std.proofs.Common.{◌≡◌, false, refl}
use lib.Ieee.{inf, div, of_bits}
use Rattle.binary64.specs.Steps.{◌⊘◌, nought, one}

pub one-by-nought : one ⊘ nought ≡ inf false
unfolding div of_bits
one-by-nought = refl
