-- The constants of `finish` and its Cholesky's verdict, as the code has them. Assumes nothing.
use Rattle.std.proofs.Common.{◌≡◌, Bool, true, false, List, refl}
use lib.Ieee.{Float, round, of_bits}
use Rattle.binary64.specs.Steps.{#, decimal}
use Rattle.dense.specs.Held.{verdict}
use Rattle.rounds.specs.Finish.{definite}

-- `MAX_SIGMA_M`
pub most : decimal 1500 0 ≡ # 0x4097700000000000
unfolding round of_bits
most = refl

-- `PS`
pub second : decimal 1_000_000_000_000 0 ≡ # 0x426D1A94A2000000
unfolding round of_bits
second = refl

pub definite-verdict : (r : Bool) (l : List Float) → definite (verdict r l) ≡ r
definite-verdict true l = refl
definite-verdict false l = refl
