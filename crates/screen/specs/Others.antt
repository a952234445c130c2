-- Document 02, items 3 and 9: "the number of failing pairs it has with others still in". `clashes` counts all still in,
-- and comes to the same, since no reception fails with itself; and a pair fails whichever of the two is asked.
-- Statements only: proofs/Others.antt proves each.
use Rattle.std.specs.Prelude.{◌≡◌, not, List, ℕ, T, ℤ}
use Rattle.sets.specs.Sets.{Subset, without}
use Rattle.screen.specs.Pair.{fails}
use Rattle.screen.specs.Screen.{clashes}

-- a reception never fails with itself
abbrev pub NoneFailsWithItself : Type 0
NoneFailsWithItself = (times sites : List ℤ) (n i : ℕ) → T (not (fails times sites n i i))

-- failing is mutual
abbrev pub FailingIsMutual : Type 0
FailingIsMutual = (times sites : List ℤ) (n i j : ℕ) → fails times sites n i j ≡ fails times sites n j i

-- "with others still in": the clash count of i in A is the one that it has in A without itself
abbrev pub OthersAreCounted : Type 0
OthersAreCounted =
    (times sites : List ℤ) (n : ℕ) (A : Subset) (i : ℕ)
    → clashes n (fails times sites n) A i ≡ clashes n (fails times sites n) (without A i) i
