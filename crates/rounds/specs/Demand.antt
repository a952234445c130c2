-- Demand 3, in the words of document 01, 'The words of demand 3': each sentence stands in quotes above what says it.
-- "All this is defined from the problem, never from what the solve noted": a `Setting` holds what a problem gives the
-- rounds, by the definitions of the screen, the best fit and the normalised residual, and specs/Later.antt says what
-- the source's remaining steps come to. Nothing here but the theorems at the end knows of the loop that computes the
-- answer. Statements only.
use Rattle.std.specs.Prelude.{◌≡◌, ℕ, zero, suc, ◌+◌, ◌*◌, ◌<◌, ◌≤◌, not, ◌&&◌, T, ◌≢◌, ◌⊎◌, ◌↔◌, List, [], ◌∷◌, is_nan, Float}
use Rattle.std.proofs.Math.Option.{Option, none, some}
use Rattle.std.specs.Float.Ieee.{lt, le}
use Rattle.dense.specs.Entries.{nth}
use Rattle.dense.specs.Factor.{found}
use Rattle.geo.specs.Geo.{from_ecef}
use Rattle.sets.specs.Sets.{Subset, count, most_receptions}
use Rattle.sets.specs.Mask.{has}
use Rattle.sets.specs.Choice.{FirstBest}
use Rattle.screen.specs.Pair.{pair_passes}
use Rattle.problem.specs.declared.Problem.{Problem}
use Rattle.problem.specs.Problem.{position, transmit_m, minimum, range}
use Rattle.whitening.specs.Whitened.{Chosen}
use Rattle.damped.specs.declared.Fit.{Fit}
use Rattle.best.specs.declared.Unfit.{Unfit}
use Rattle.limits.specs.Heights.{min_height_m, max_height_m}
use Rattle.best.specs.Plausible.{max_range_m}
use Rattle.best.specs.Best.{refuses, gives}
use Rattle.best.specs.OfProblem.{receptions_of, whitener_over, chosen_over, starts_over}
use Rattle.best.specs.Meaning.{IsBest}
use Rattle.record.specs.declared.content.Fix.{Fix}
use Rattle.rounds.specs.declared.answer.Refusal.{Refusal}
use Rattle.rounds.specs.declared.answer.Refusal.TheVariants.{TooFew, Singular}
use Rattle.rounds.specs.declared.finish.Unpublished.{Unpublished}
use Rattle.rounds.specs.Setting.{of_unfit, of_unpublished, Answer, fix, refused, no_fixed_point, Setting, five, kept}
use Rattle.rounds.specs.Setting.{survivors, greater, less}
use Rattle.rounds.specs.Solve.{limit_at, normalised, dof_of, setting_at, solve_problem}
use Rattle.rounds.specs.Later.{Published, Withheld}

module _ {Q F X : Type 0} (G : Setting Q F X) where
  -- ---- a round. "The rounds: their state is the set of included receptions": S. Beside it stand the parameters p that
  -- the round before found, if there was one: the source starts from them too.

  -- how many are included
  abbrev pub included : Subset → ℕ
  included S = count S G.n

  -- "A round makes the best fit over the included, by the steps of solve.rs, and takes every kept reception's
  -- normalised residual at that fit, by the same source.": f is that fit, and no refusal is met
  pub record Fitted (S : Subset) (p : Option Q) (f : F) : Type 0 where
    pub enough : G.minimum ≤ included S
    pub best : G.best_fit S p ≡ gives f
    pub numbers : (j : ℕ) → j < G.n → T (kept G j) → T (not (is_nan (G.residual f j)))

  -- above 5, and not above 5
  abbrev pub Above : F → ℕ → Type 0
  Above f j = T (lt five (G.residual f j))

  abbrev pub NotAbove : F → ℕ → Type 0
  NotAbove f j = T (le (G.residual f j) five)

  -- kept, but left out
  abbrev pub left_out : Subset → Subset
  left_out S j = kept G j && not (S j)

  -- i is the greatest of the included, and above 5. "Ties go to the lowest index.": none is greater, and i is greater
  -- than each before it
  abbrev pub Worst : Subset → F → ℕ → Type 0
  Worst S f i = FirstBest S (greater (G.residual f)) G.n i × Above f i

  -- i is the least of those left out, and not above 5: none is less, and i is less than each before it
  abbrev pub Least : Subset → F → ℕ → Type 0
  Least S f i = FirstBest (left_out S) (less (G.residual f)) G.n i × NotAbove f i

  -- no included one is above 5
  abbrev pub NoneAbove : Subset → F → Type 0
  NoneAbove S f = (j : ℕ) → j < G.n → T (S j) → NotAbove f j

  -- each that is left out is above 5
  abbrev pub NoneBack : Subset → F → Type 0
  NoneBack S f = (j : ℕ) → j < G.n → T (left_out S j) → Above f j

  -- S' is S less i
  abbrev pub Loses : Subset → ℕ → Subset → Type 0
  Loses S i S' = (j : ℕ) → T (S' j) ↔ (T (S j) × (j ≢ i))

  -- S' is S and i
  abbrev pub Regains : Subset → ℕ → Subset → Type 0
  Regains S i S' = (j : ℕ) → T (S' j) ↔ (T (S j) ⊎ (j ≡ i))

  -- "Either is a change.": S, after p, becomes S', at the best fit f
  pub data Change (S : Subset) (p : Option Q) (S' : Subset) (f : F) : Type 0 where
    -- "If an included one is above 5, the greatest goes out."
    removal : (i : ℕ) → Fitted S p f → Worst S f i → Loses S i S' → Change S p S' f
    -- "Otherwise, if a left-out one is not above 5, the least comes back."
    return : (i : ℕ) → Fitted S p f → NoneAbove S f → Least S f i → Regains S i S' → Change S p S' f

  -- "With neither, the rounds are settled"
  pub record Settled (S : Subset) (p : Option Q) (f : F) : Type 0 where
    pub fitted : Fitted S p f
    pub none_above : NoneAbove S f
    pub none_back : NoneBack S f

  -- "A refusal met on the way, as for too few when a round begins or for a residual that is not a number, ends the
  -- solve, and that round makes no change."
  pub data Ends (S : Subset) (p : Option Q) : Refusal → Type 0 where
    -- 1, with their number: "fewer included than 4 (3 with altitude)"
    few : included S < G.minimum → Ends S p (TooFew (included S))
    -- 2, 3, 6 or 8: enough are included, and no best fit is found over them
    unfit : (u : Unfit) → G.minimum ≤ included S → G.best_fit S p ≡ refuses u → Ends S p (of_unfit u)
    -- 6: "a kept reception's normalised residual is not a number"
    unnumbered :
        (f : F) (j : ℕ) → G.minimum ≤ included S → G.best_fit S p ≡ gives f
        → j < G.n → T (kept G j) → T (is_nan (G.residual f j)) → Ends S p Singular

  -- ---- the rounds

  -- k rounds, each of which makes a change, lead from S, after p, to E, after q
  pub data Chain : ℕ → Subset → Option Q → Subset → Option Q → Type 0 where
    start : {S : Subset} {p : Option Q} → Chain zero S p S p
    then :
        {k : ℕ} {S S' E : Subset} {p q : Option Q} {f : F}
        → Change S p S' f → Chain k S' (some (G.params f)) E q → Chain (suc k) S p E q

  -- "at first all kept ones": so many changes lead from these to E, after q
  abbrev pub Changed : ℕ → Subset → Option Q → Type 0
  Changed k E q = Chain k (kept G) none E q

  -- at most 2s + 1 changes lead to E, after q: a round is still to come
  pub record InTime (E : Subset) (q : Option Q) : Type 0 where
    pub changes : ℕ
    pub most : changes ≤ 2 * survivors G + 1
    pub chain : Changed changes E q

  -- k rounds each made a change, whatever they lead to
  abbrev pub EachChanged : ℕ → Type 0
  EachChanged k = (E : Subset) × (q : Option Q) × Changed k E q

-- "the source's remaining steps", for a set over which the rounds settled and its best fit: what they show, or
-- why they show nothing
pub record Remaining (F X : Type 0) : Type 1 where
  pub Shows : Subset → F → X → Type 0
  pub Withholds : Subset → F → Unpublished → Type 0

module _ {Q F X : Type 0} (G : Setting Q F X) (L : Remaining F X) where
  -- ---- the answer. "With neither, the rounds are settled, and the source's remaining steps at that round's best fit
  -- give the fix or its refusal by 3, 5, 6 or 9."

  -- the fix x. "Used are the receptions included when the rounds settled".
  pub record Fixed (x : X) : Type 0 where
    pub used : Subset
    pub before : Option Q
    pub in_time : InTime G used before
    pub best : F
    pub settled : Settled G used before best
    pub shown : L.Shows used best x

  -- a refusal: met on the way, or by the remaining steps
  pub data Refused : Refusal → Type 0 where
    early : (S : Subset) (p : Option Q) (e : Refusal) → InTime G S p → Ends G S p e → Refused e
    late :
        (S : Subset) (p : Option Q) (f : F) (u : Unpublished)
        → InTime G S p → Settled G S p f → L.Withholds S f u → Refused (of_unpublished u)

  -- "Demand 3 is a single claim about the whole chain of rounds and its answer": each answer is given exactly when
  -- what stands beside it holds
  pub record Claim (a : Answer X) : Type 0 where
    pub fixed : (x : X) → (a ≡ fix x) ↔ Fixed x
    pub refusals : (e : Refusal) → (a ≡ refused e) ↔ Refused e
    -- "After 2s+2 changes the answer is 4, however few are then included."
    pub unfixed : (a ≡ no_fixed_point) ↔ EachChanged G (2 * survivors G + 2)

-- each outcome of the setting's remaining steps is given exactly where L says so
pub record Exactly {Q F X : Type 0} (G : Setting Q F X) (L : Remaining F X) : Type 0 where
  pub shows : (S : Subset) (f : F) (x : X) → (G.later S f ≡ gives x) ↔ L.Shows S f x
  pub withholds : (S : Subset) (f : F) (u : Unpublished) → (G.later S f ≡ refuses u) ↔ L.Withholds S f u

-- ---- a problem: "an input of the solve that none of 7 and 10 to 15 turns away". What follows is said of any
-- `Problem`, and entry's `Promise` says it of the one that such an input holds
module _ (P : Problem) where
  -- what the rounds see of it
  abbrev pub rounds : Setting (List Float) Fit Fix
  rounds = setting_at P

  -- its remaining steps, by specs/Later.antt
  abbrev pub remaining : Remaining Fit Fix
  remaining = record {
    Shows = Published (receptions_of P) P.reference_ps;
    Withholds = Withheld (receptions_of P) P.reference_ps;
  }

  -- ---- what a record shows: the used receptions by the mask, and the parameters, which are the ECEF and T
  abbrev pub used_by : Fix → Subset
  used_by x = has x.mask

  abbrev pub params_by : Fix → List Float
  params_by x = nth x.ecef 0 ∷ nth x.ecef 1 ∷ nth x.ecef 2 ∷ x.t ∷ []

  -- "Residuals and ranges are taken at that round's best fit, in binary64": the parameters are that fit's (`Found`,
  -- `shows`)
  abbrev pub residual_by : Fix → ℕ → Float
  residual_by x j = normalised (receptions_of P) (params_by x) j

  abbrev pub range_by : Fix → ℕ → Float
  range_by x j = range P.site x.ecef j

  -- the used receptions, as l whitens them
  abbrev pub whitened_by : Fix → List Float → Chosen
  whitened_by x l = chosen_over (receptions_of P) (used_by x) l

  -- "the limit is `published_chi2_limit` for the fix's dof"
  abbrev pub chi2_limit_by : Fix → List Float → Float
  chi2_limit_by x l = limit_at (whitened_by x l) x.dof (params_by x)

  -- Demand 3, "Found with every fix", of the values that its record shows
  pub record Found (x : Fix) (h : Fixed rounds remaining x) : Type 0 where
    -- "Used are the receptions included when the rounds settled, and the mask shows these."
    pub uses : used_by x ≡ h.used
    -- none but kept ones
    pub used_kept : (j : ℕ) → T (used_by x j) → T (kept rounds j)
    -- "at least four used (three with altitude)"
    pub enough : minimum P.altitude ≤ count (used_by x) P.n
    -- "each two kept ones passing the screen"
    pub screened : (i j : ℕ) → T (kept rounds i) → T (kept rounds j) → T (pair_passes P.time P.site_mm i j)
    -- "every used normalised residual at most 5, every kept but unused one above 5"
    pub within : (j : ℕ) → T (used_by x j) → T (le (residual_by x j) five)
    pub beyond : (j : ℕ) → T (kept rounds j) → T (not (used_by x j)) → T (lt five (residual_by x j))
    -- "used ranges at most 600,000 m"
    pub near : (j : ℕ) → T (used_by x j) → T (le (range_by x j) max_range_m)
    -- "height -1,500 to 25,000 m". "height and chi-square are the record's own": the position is that of the ECEF
    pub placed : x.position ≡ from_ecef x.ecef
    pub above : T (le min_height_m x.position.height_m)
    pub below : T (le x.position.height_m max_height_m)
    -- dof: "used receptions, plus one with altitude, less 4"
    pub freedom : x.dof ≡ dof_of (receptions_of P) (used_by x)
    -- "chi-square not above its limit"
    pub factor : List Float
    pub whitens : whitener_over (receptions_of P) (used_by x) ≡ found factor
    pub consistent : T (not (lt (chi2_limit_by x factor) x.chi2))
    -- "it shows the last round's best fit"
    pub shows : (position h.best.params ≡ x.ecef) × (transmit_m h.best.params ≡ x.t)
        × (h.best.cost ≡ x.chi2)
    -- which leads the fits from all starts of that round: it converged and is plausible, no such fit costs less, each
    -- such one from an earlier start costs more; and there is "no rival among the fits from all other starts"
    pub from : ℕ
    pub best : IsBest (whitened_by x factor) (starts_over (receptions_of P) (used_by x) h.before) h.best from

  -- demand 3, of the answer a
  pub record Demand (a : Answer Fix) : Type 0 where
    pub claim : Claim rounds remaining a
    pub found : (x : Fix) (h : Fixed rounds remaining x) → Found x h

-- ---- what proofs/Found.antt proves: the definition's answer meets the demand, and no other answer does
abbrev pub DemandMet : Type 0
DemandMet = (P : Problem) → P.n ≤ most_receptions → Demand P (solve_problem P)

abbrev pub OneAnswer : Type 0
OneAnswer = (P : Problem) (a : Answer Fix) → Demand P a → a ≡ solve_problem P

-- "the source's remaining steps" come to each of their outcomes exactly where specs/Later.antt says so
-- (proofs/Exact.antt)
abbrev pub LaterExactly : Type 0
LaterExactly = (P : Problem) → Exactly (rounds P) (remaining P)
