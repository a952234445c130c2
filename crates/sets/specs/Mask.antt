-- Sets of receptions as masks. Definitions only.
use Rattle.std.specs.Prelude.{cond, ℕ, zero, suc, ◌+◌, ◌*◌, ◌/◌, ◌%◌, ◌^◌, eqb}
use Rattle.sets.specs.Sets.{Subset}

-- The set that the mask m stands for. Document 01: "bit i set where reception i (from 0) was used".
unfoldable pub has : ℕ → Subset
has m i = eqb (m / 2 ^ i % 2) 1

-- the mask of those of S below n
unfoldable pub mask_of : Subset → ℕ → ℕ
mask_of S zero = 0
mask_of S (suc k) = cond (S k) 1 0 * 2 ^ k + mask_of S k
