-- Document 02, item 2, "One look at the residuals": what the pass holds after the first k receptions, and what that
-- is. Definitions and statements only: proofs/Looks.antt proves them.
use Rattle.std.specs.Prelude as std
use Rattle.std.specs.Prelude.{◌≡◌, ℕ, ◌<◌, ◌≤◌, Bool, true, not, T, ◌↔◌, is_nan, Float}
use Rattle.std.proofs.Math.Option.{Option, none, some}
use Rattle.std.specs.Float.Ieee.{lt, le}
use Rattle.sets.specs.Sets.{Subset, most_receptions}
use Rattle.sets.specs.Choice.{IsChoice}
use Rattle.rounds.specs.declared.outliers.Choice.{Choice}
use Rattle.rounds.specs.declared.outliers.Choices.{Choices}
use Rattle.rounds.specs.Setting.{five}
use Rattle.rounds.specs.Setting.{greater, less}
use Rattle.rounds.specs.Rounds.{above, worst, readmissible, least}

-- a choice as the code holds it, its residual beside it
abbrev pub held : (ℕ → Float) → Option ℕ → std.Option Choice
held z none = std.None
held z (some i) = std.Some (record { at = i; z = z i })

-- the reception that is held, if one is
abbrev pub chosen_by : std.Option Choice → Option ℕ
chosen_by std.None = none
chosen_by (std.Some c) = some c.at

-- whether a residual is before the one that is held, in this order, or none is held
abbrev pub goes_before : (Float → Float → Bool) → Float → std.Option Choice → Bool
goes_before order x std.None = true
goes_before order x (std.Some c) = order x c.z

-- K are kept and S included, with the normalised residuals z
module _ (K S : Subset) (z : ℕ → Float) where
  -- "one pass that holds both choices": the definition's, among the first k receptions
  abbrev pub looked_to : ℕ → Choices
  looked_to k = record { worst = held z (worst S z k); least = held z (least K S z k) }

  -- "both are the definition's choices among these k, each none exactly where it has none"
  pub record BothChosen (k : ℕ) (c : Choices) : Type 0 where
    -- "the worst included normalised residual above 5", the lowest index on ties
    pub worst : IsChoice (above S z) (greater z) k (chosen_by c.worst)
    -- "the least left-out one not above 5", the lowest index on ties
    pub least : IsChoice (readmissible K S z) (less z) k (chosen_by c.least)
    -- no worst exactly where no included one of these k is above 5
    pub no_worst : (chosen_by c.worst ≡ none) ↔ ((j : ℕ) → j < k → T (S j) → T (le (z j) five))
    -- no least exactly where each left-out one of these k is above 5
    pub no_least : (chosen_by c.least ≡ none)
        ↔ ((j : ℕ) → j < k → T (K j) → T (not (S j)) → T (lt five (z j)))

-- "Where all residuals are numbers, after the first k receptions, for every k from 0": only kept receptions are
-- included, and every kept one's residual is a number
abbrev pub LookFindsBoth : Type 0
LookFindsBoth = (K S : Subset) (z : ℕ → Float)
    → ((j : ℕ) → T (S j) → T (K j))
    → ((j : ℕ) → T (K j) → T (not (is_nan (z j))))
    → (k : ℕ) → k ≤ most_receptions → BothChosen K S z k (looked_to K S z k)
