-- What the tally of a whole run is, by the calls of the closure that compares.
use Rattle.std.specs.Prelude.{◌≡◌, ◌<◌, ◌≤◌, ◌+◌, ℕ, List, Option, Some, None, length, count_by, not, slice_set}
use Rattle.std.specs.Prelude.{slice_index, bit_xor}
use Rattle.std.specs.List.{FoldsTo}
use Rattle.cases.specs.declared.Tally.{Tally}
use Rattle.cases.specs.declared.Compared.{Compared}

-- An answer, which is a number and what it leaves, falsified: byte `place` of what it leaves is changed in its last
-- bit, or, past its end, the number is.
pub record IsFalsified (number other place : ℕ) (after changed : List ℕ) : Type 0 where
  pub inside : place < length after → (other ≡ number) ×
      (changed ≡ slice_set after place (bit_xor (slice_index after place) 1))
  pub past : length after ≤ place → (other ≡ bit_xor number 1) × (changed ≡ after)

-- The closure, and the number of the next case.
abbrev pub Turn : Type 0 → Type 0
Turn F = F × ℕ

-- A call for the next case that gave this comparison.
abbrev pub Gives : {F : Type 0} → (F → ℕ → Option Compared → F → Type 0) → Turn F → Compared → Turn F → Type 0
Gives step before found after = step before.0 before.1 (Some found) after.0 × (after.1 ≡ before.1 + 1)

-- Of the cases that the calls gave, from case 0 on, how many there are and how many differ; and that no case was left:
-- the next call gave none, or there are a million.
pub record IsTallyOf {F : Type 0} (step : F → ℕ → Option Compared → F → Type 0) (next : F)
    (tally : Tally) : Type 0 where
  pub found : List Compared
  pub last : F
  pub gave : FoldsTo (Gives step) (next, 0) found (last, length found)
  pub compared : tally.compared ≡ length found
  pub differ : tally.differ ≡ count_by (λ c. not c.same) found
  pub differ_falsified : tally.differ_falsified ≡ count_by (λ c. not c.same_falsified) found
  pub whole : tally.compared < 1000000 → (after : F) × step last tally.compared None after
