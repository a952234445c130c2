-- Parameters whose four components are values of binary64. Assumes nothing.
use mathlib.Core.List.{List}
use Prim.Native.Nat.{ℕ, zero, suc, ◌<◌}
use native.Mathlib.Omega.{arith}
use lib.Ieee.{Float}
use Rattle.binary64.specs.Meaning.{IsBinary64}
use Rattle.dense.specs.Entries.{nth}

abbrev pub Formatted : List Float → Type 0
Formatted p = (k : ℕ) → k < 4 → IsBinary64 (nth p k)

pub formatted
    : (p : List Float) → IsBinary64 (nth p 0) → IsBinary64 (nth p 1) → IsBinary64 (nth p 2) → IsBinary64 (nth p 3) → Formatted p
formatted p a b c d zero h = a
formatted p a b c d (suc zero) h = b
formatted p a b c d (suc (suc zero)) h = c
formatted p a b c d (suc (suc (suc zero))) h = d
formatted p a b c d (suc (suc (suc (suc k)))) h = absurd (omega arith)
