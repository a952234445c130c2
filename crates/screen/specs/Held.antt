-- How the code holds the failing pairs, the state of the screen and what the removals did. Nothing that must be
-- believed cites it. Definitions only.
use Rattle.std.specs.Prelude.{◌≡◌, Bool, List, ℕ, ◌^◌, ◌<◌, get_or}
use Rattle.sets.specs.Mask.{has}
use Rattle.screen.specs.declared.State.{State}
use Rattle.screen.specs.State.{Held}
use Rattle.screen.specs.Screen.{kept}
use Rattle.screen.specs.declared.Outcome.{Outcome}
use Rattle.screen.specs.Turns.{turn_of, clash_of}

-- the relation that rows of masks stand for: the pair i, j fails where row i has bit j
unfoldable pub pairs_of : List ℕ → ℕ → ℕ → Bool
unfolding has
pairs_of rows i j = has (get_or rows i 0) j

-- what the code's state holds
abbrev pub numbers_of : List ℕ → ℕ → ℕ
numbers_of counts i = get_or counts i 0

abbrev pub held_by : State → Held
held_by s = record { alive = has s.alive; counts = numbers_of s.counts }

module _ (n : ℕ) (fails : ℕ → ℕ → Bool) where
  -- how the code tells what the removals did
  pub record Told (o : Outcome) : Type 0 where
    pub survivors : has o.kept ≡ kept n fails
    pub within : o.kept < 2 ^ n
    pub turns : (j : ℕ) → get_or o.turns j 0 ≡ turn_of n fails j
    pub clashes : (j : ℕ) → get_or o.clashes j 0 ≡ clash_of n fails j
