-- The outlier rounds and their answer as a computation: the loop of `solve_problem`. Definitions only.
use Rattle.std.proofs.Math.Option.{Option, none, some}
use Rattle.std.specs.Prelude.{ℕ, zero, suc, ◌+◌, ◌*◌, Bool, true, false, not, ◌&&◌, is_nan, nat_lt, Float}
use Rattle.std.specs.Float.Ieee.{lt, le}
use Rattle.sets.specs.Sets.{Subset, without, joined, count, any}
use Rattle.sets.specs.Choice.{choose}
use Rattle.best.specs.declared.Unfit.{Unfit}
use Rattle.best.specs.Best.{Outcome, refuses, gives}
use Rattle.rounds.specs.declared.answer.Refusal.{Refusal}
use Rattle.rounds.specs.declared.answer.Refusal.TheVariants.{TooFew, Singular}
use Rattle.rounds.specs.declared.finish.Unpublished.{Unpublished}
use Rattle.rounds.specs.Setting.{of_unfit, of_unpublished, Answer, fix, refused, no_fixed_point, Setting, five, kept}
use Rattle.rounds.specs.Setting.{survivors, greater, less}

-- ---- the outlier rule: K are kept and S included, of n receptions with the normalised residuals z

-- `worst`: of those included and above 5 the greatest, the lowest index on ties
abbrev pub above : Subset → (ℕ → Float) → Subset
above S z i = S i && lt five (z i)

abbrev pub worst : Subset → (ℕ → Float) → ℕ → Option ℕ
worst S z n = choose (above S z) (greater z) n

-- `readmit`: of those kept but left out and not above 5 the least, the lowest index on ties
abbrev pub readmissible : Subset → Subset → (ℕ → Float) → Subset
readmissible K S z i = (K i && not (S i)) && le (z i) five

abbrev pub least : Subset → Subset → (ℕ → Float) → ℕ → Option ℕ
least K S z n = choose (readmissible K S z) (less z) n

-- whether a kept reception's normalised residual is not a number
abbrev pub no_number : Subset → (ℕ → Float) → Subset
no_number K z i = K i && is_nan (z i)

abbrev pub unnumbered : Subset → (ℕ → Float) → ℕ → Bool
unnumbered K z n = any (no_number K z) n

-- what a round with the best fit f comes to: it ends the solve, changes the included receptions, or settles
pub data Step (F : Type 0) : Type 0 where
  ends : Refusal → Step F
  changes : Subset → F → Step F
  settles : F → Step F

-- by whether a residual is not a number, the worst, and the least: a removal comes before a return
abbrev pub turned : {F : Type 0} → Subset → F → Bool → Option ℕ → Option ℕ → Step F
turned S f true w l = ends Singular
turned S f false (some i) l = changes (without S i) f
turned S f false none (some i) = changes (joined S i) f
turned S f false none none = settles f

unfoldable pub decided : {F : Type 0} → Subset → Subset → (ℕ → Float) → ℕ → F → Step F
unfolding without joined choose count
decided K S z n f = turned S f (unnumbered K z n) (worst S z n) (least K S z n)

-- ---- the rounds

-- the answer once they are settled
abbrev pub closed : {X : Type 0} → Outcome Unpublished X → Answer X
closed (refuses e) = refused (of_unpublished e)
closed (gives x) = fix x

module _ {Q F X : Type 0} (G : Setting Q F X) where
  -- what a round comes to by its best fit
  abbrev pub after_fit : Subset → Outcome Unfit F → Step F
  after_fit S (refuses e) = ends (of_unfit e)
  after_fit S (gives f) = decided (kept G) S (G.residual f) G.n f

  -- S has too few, or it is fitted
  abbrev pub begun : Subset → Bool → Outcome Unfit F → Step F
  begun S true o = ends (TooFew (count S G.n))
  begun S false o = after_fit S o

  -- a round over S, after one that found the parameters p
  unfoldable pub round : Subset → Option Q → Step F
  unfolding decided
  round S p = begun S (nat_lt (count S G.n) G.minimum) (G.best_fit S p)

  -- the answer after a round over S, where further rounds answer as `go` says
  abbrev pub answer_after : (Subset → Option Q → Answer X) → Subset → Step F → Answer X
  answer_after go S (ends e) = refused e
  answer_after go S (changes R f) = go R (some (G.params f))
  answer_after go S (settles f) = closed (G.later S f)

  -- the answer of at most k rounds, from S
  unfoldable pub rounds_to : ℕ → Subset → Option Q → Answer X
  unfolding round
  rounds_to zero S p = no_fixed_point
  rounds_to (suc k) S p = answer_after (λ R q. rounds_to k R q) S (round S p)

  -- `solve_problem`: `for _ in 0..2 * screened.len() + 2`, from all kept receptions
  unfoldable pub outlier_rounds : Answer X
  unfolding rounds_to
  outlier_rounds = rounds_to (2 * survivors G + 2) (kept G) none
