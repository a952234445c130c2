-- The removals of document 01's screen, over any relation of failing pairs, as a computation: "While a pair fails, the
-- reception in most failing pairs goes, lowest index on ties." Definitions only; Meaning.antt says what they come to.
use Rattle.std.proofs.Math.Option.{Option, Option-elim}
use Rattle.std.specs.Prelude.{Bool, ◌&&◌}
use Prim.Native.Nat.{ℕ, zero, suc}
use Rattle.std.proofs.Math.Dec.{ltb}
use Rattle.sets.specs.Sets.{Subset, first, without, count}
use Rattle.sets.specs.Choice.{choose}

-- of n receptions, where `fails i j` says that the pair i, j fails
module _ (n : ℕ) (fails : ℕ → ℕ → Bool) where
  -- the clash count of i in A: how many failing pairs it has with receptions of A
  unfoldable pub clashes : Subset → ℕ → ℕ
  unfolding count
  clashes A i = count (λ j. A j && fails i j) n

  -- which goes from A: of its receptions in a failing pair there the first in most, or none where no pair fails
  unfoldable pub goes : Subset → Option ℕ
  unfolding choose clashes
  goes A = choose (λ i. A i && ltb 0 (clashes A i)) (λ i j. ltb (clashes A j) (clashes A i)) n

  -- those still in after k turns, of which each takes the one that goes, if one does
  unfoldable pub alive_to : ℕ → Subset
  unfolding goes without Option-elim
  alive_to zero = first n
  alive_to (suc k) = let A = alive_to k in Option-elim (goes A) A (without A)

  -- the receptions that the screen keeps: n turns are enough
  unfoldable pub kept : Subset
  unfolding alive_to
  kept = alive_to n
