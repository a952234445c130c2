-- What document 01 says of every sum, of the transmit times that a start's is the mean of. A statement only:
-- proofs/Meaning.antt proves it.
use Rattle.std.specs.Prelude.{◌≡◌, ℕ, ◌<◌, List, to_bits, Float}
use Rattle.std.specs.Float.{binary64}
use Rattle.std.specs.Float.Ieee.{neg}
use Rattle.binary64.specs.Steps.{◌⊖◌, nought}
use Rattle.dense.specs.Entries.{nth}
use Rattle.problem.specs.Problem.{range}
use Rattle.starts.specs.Lifted.{sent_to}

-- "Sums start from plus zero": so where k receptions each give -0, their sum is plus zero, for every k
abbrev pub TimesFromPlusZero : Type 0
TimesFromPlusZero =
    (sites z x : List Float) (k : ℕ) → ((i : ℕ) → i < k → nth z i ⊖ range sites x i ≡ neg nought)
    → to_bits binary64 (sent_to sites z x k) ≡ 0
