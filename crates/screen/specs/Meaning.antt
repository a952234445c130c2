-- What `kept` means, in words that know nothing of its computation. Statements only: proofs/Removal.antt proves each.
use Rattle.std.specs.Prelude.{◌≡◌, ◌↔◌, Bool, not, List, ℕ, ◌≤◌, ◌<◌, T, ℤ}
use Rattle.sets.specs.Sets.{Subset, first, without}
use Rattle.screen.specs.Pair.{pair_passes, fails}
use Rattle.screen.specs.Screen.{clashes, kept}

module _ (n : ℕ) (fails : ℕ → ℕ → Bool) where
  -- "the reception in most failing pairs goes, lowest index on ties": i is in a failing pair of A, no other of A is in
  -- more, and each before it is in fewer
  pub record Goes (A : Subset) (i : ℕ) : Type 0 where
    pub here : T (A i)
    pub clash : 0 < clashes n fails A i
    pub most : (j : ℕ) → T (A j) → clashes n fails A j ≤ clashes n fails A i
    pub lowest : (j : ℕ) → j < i → T (A j) → clashes n fails A j < clashes n fails A i

  -- no two of A fail
  abbrev pub Clear : Subset → Type 0
  Clear A = (i j : ℕ) → T (A i) → T (A j) → T (not (fails i j))

  -- "while a pair fails": from A, one going after another, K is left
  pub data Leaves (K : Subset) : Subset → Type 0 where
    done : Clear K → Leaves K K
    then : {A : Subset} (i : ℕ) → Goes A i → Leaves K (without A i) → Leaves K A

-- document 01's sentence leaves those kept, whatever fails, and nothing else
abbrev pub OnlyKeptIsLeft : Type 0
OnlyKeptIsLeft = (n : ℕ) (fails : ℕ → ℕ → Bool) (K : Subset) → Leaves n fails K (first n) ↔ (K ≡ kept n fails)

-- of the receptions of a solve each two kept ones pass
abbrev pub KeptPass : Type 0
KeptPass =
    (times sites : List ℤ) (n i j : ℕ) → T (kept n (fails times sites n) i) → T (kept n (fails times sites n) j)
    → T (pair_passes times sites i j)
