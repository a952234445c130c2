-- What the outlier rounds start from, and what they can come to. Definitions only.
use Rattle.std.specs.Prelude.{ℕ, Bool, Float}
use Rattle.std.proofs.Math.Option.{Option}
use Rattle.std.specs.Float.Ieee.{lt}
use Rattle.binary64.specs.Steps.{#}
use Rattle.sets.specs.Sets.{Subset, count}
use Rattle.best.specs.declared.Unfit.{Unfit}
use Rattle.best.specs.declared.Unfit.TheVariants as unfit
use Rattle.best.specs.Best.{Outcome}
use Rattle.rounds.specs.declared.answer.Refusal.{Refusal}
use Rattle.rounds.specs.declared.answer.Refusal.TheVariants.{NoConvergence, OutOfRange, Inconsistent, Singular}
use Rattle.rounds.specs.declared.answer.Refusal.TheVariants.{Ambiguous, Uncertain}
use Rattle.rounds.specs.declared.finish.Unpublished.{Unpublished}
use Rattle.rounds.specs.declared.finish.Unpublished.TheVariants as unpublished

-- Document 01, 'When there is no fix': the refusal by what a best fit meets, and by what the steps after the rounds
-- meet
abbrev pub of_unfit : Unfit → Refusal
of_unfit unfit.NoConvergence = NoConvergence
of_unfit unfit.OutOfRange = OutOfRange
of_unfit unfit.Ambiguous = Ambiguous
of_unfit unfit.Singular = Singular

abbrev pub of_unpublished : Unpublished → Refusal
of_unpublished unpublished.Inconsistent = Inconsistent
of_unpublished unpublished.Singular = Singular
of_unpublished unpublished.Uncertain = Uncertain
of_unpublished unpublished.OutOfRange = OutOfRange

-- X is what a fix shows. 4, no fixed point, is an answer of its own: no round and no later step refuses by it.
pub data Answer (X : Type 0) : Type 0 where
  fix : X → Answer X
  refused : Refusal → Answer X
  no_fixed_point : Answer X

-- A problem, as the rounds see it (G below): Q are parameters, F are fits.
pub record Setting (Q F X : Type 0) : Type 0 where
  pub n : ℕ
  -- which of the n receptions are kept
  pub kept : Subset
  -- how many receptions a fit needs
  pub minimum : ℕ
  -- the best fit over a set of receptions, after a round that found the parameters
  pub best_fit : Subset → Option Q → Outcome Unfit F
  pub params : F → Q
  -- the normalised residual of a reception at a fit
  pub residual : F → ℕ → Float
  -- the source's remaining steps, for the fit at which the rounds settled over a set
  pub later : Subset → F → Outcome Unpublished X

-- 5: `OUTLIER_Z`
abbrev pub five : Float
five = # 0x4014000000000000

-- of the residuals z, that of i is greater than that of j, or less
abbrev pub greater : (ℕ → Float) → ℕ → ℕ → Bool
greater z i j = lt (z j) (z i)

abbrev pub less : (ℕ → Float) → ℕ → ℕ → Bool
less z i j = lt (z i) (z j)

-- "Kept are the s receptions left when no pair fails the screen; s stays that number throughout."
module _ {Q F X : Type 0} (G : Setting Q F X) where
  abbrev pub kept : Subset
  kept = G.kept

  -- s
  abbrev pub survivors : ℕ
  survivors = count kept G.n
