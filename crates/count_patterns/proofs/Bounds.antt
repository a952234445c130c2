-- No count is above the number of patterns, and that is at most 2^15. Assumes nothing.
use mathlib.Core.Path.{◌≡◌, refl, ◌∙◌}
use mathlib.Core.List.{List}
use Prim.Native.Nat.{ℕ, ◌^◌, ◌≤◌, ◌<◌}
use native.Mathlib.Omega.{arith}
use lib.Dec.{eqb}
use lib.ListN.{get_or}
use lib.Pow.{pow_mono, pow_pos}
use borrow.Author.Tests.{le-ltb}
use Rattle.sets.proofs.Counting.{count-le}
use Rattle.patterns.specs.Patterns.{pairs, failing, survivors, leaving, table, counts_after}
use Rattle.patterns.proofs.Places.{pairs-six}

pub some-patterns : (n : ℕ) → 0 < 2 ^ pairs n
some-patterns n = pow_pos (pairs n)

pub few-patterns : (n : ℕ) → n ≤ 6 → 2 ^ pairs n ≤ 2 ^ 15
few-patterns n h = pow_mono (pairs-six n h)

pub leaving-le : (n s : ℕ) → n ≤ 6 → leaving n s ≤ 2 ^ 15
unfolding leaving
leaving-le n s h = omega (arith, count-le (λ (p : ℕ). eqb (survivors n (failing n p)) s) (2 ^ pairs n), few-patterns n h)

-- the three that are added up
pub four-in-table
    : (n : ℕ) (counts : List ℕ) → counts ≡ table n
    → (get_or counts 4 0 ≡ leaving n 4) × (get_or counts 5 0 ≡ leaving n 5) × (get_or counts 6 0 ≡ leaving n 6)
unfolding table
four-in-table n counts e = rw e (refl, refl, refl)

pub counted-table : (n : ℕ) (found counts : List ℕ) → n ≤ 6 → counts ≡ counts_after n found → counts ≡ table n
counted-table n found counts h e = e ∙ rw (le-ltb 6 n h) refl
