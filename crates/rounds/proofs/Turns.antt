-- A round by the tests that its code makes. Assumes nothing.
use Rattle.std.proofs.Common.{◌≡◌, ℕ, ◌^◌, ◌<◌, ◌≤◌, Bool, false, List, ℤ, sym, ap, ◌∙◌, subst, ap₂, le-ltb, lt-ltb}
use mathlib.Core.Option.{Option}
use Rattle.std.specs.Prelude.{Result, Ok, Err}
use lib.Ieee.{Float}
use Rattle.dense.specs.Entries.{nth}
use Rattle.dense.specs.Factor.{Factor}
use Rattle.sets.specs.Sets.{Subset, count}
use Rattle.sets.specs.Mask.{has}
use Rattle.sets.proofs.Masks.{count-within}
use Rattle.geo.specs.Geo.{from_ecef}
use Rattle.problem.specs.Problem.{position, minimum}
use Rattle.whitening.specs.Whitened.{Chosen}
use Rattle.damped.specs.declared.Fit.{Fit}
use Rattle.best.specs.declared.Unfit.{Unfit}
use Rattle.best.specs.declared.BestAt.{BestAt}
use Rattle.best.specs.Best.{Outcome, refuses, gives}
use Rattle.best.specs.Held.{norm_at, array_of, as_best_at}
use Rattle.best.specs.OfProblem.{Receptions, whitener_over, chosen_over, best_fit_over}
use Rattle.best.proofs.Over.{answered-over}
use Rattle.record.specs.declared.content.Fix.{Fix}
use Rattle.rounds.specs.declared.answer.Refusal.{Refusal}
use Rattle.rounds.specs.declared.answer.Refusal.TheVariants.{TooFew}
use Rattle.rounds.specs.declared.outliers.Turn.{Turn}
use Rattle.rounds.specs.Setting.{of_unfit, Setting, kept}
use Rattle.rounds.specs.Rounds.{ends, decided, begun, round}
use Rattle.rounds.specs.Solve.{normalised, setting_of}
use Rattle.rounds.specs.Held.{step_of, held_over, NormOf}
use Rattle.rounds.proofs.Searches.{decided-same}

-- what the code holds of a best fit is one that the outcome gives, with its place and its rounding norm
told-fit : (C : Chosen) (o : Outcome Unfit Fit) (x : BestAt) → Ok x ≡ as_best_at C o
    → (o ≡ gives x.fit) × (x.place ≡ from_ecef (position x.fit.params)) × (x.norm ≡ norm_at C x.fit.params)
told-fit C (refuses e) x h = cc
told-fit C (gives f) x h =
    let same : x ≡ record { fit = f; place = from_ecef (position f.params); norm = norm_at C f.params } = cc in
    let own : f ≡ x.fit = ap (λ (y : BestAt). y.fit) (sym same) in (
      ap gives own,
      ap (λ (y : BestAt). y.place) same ∙ ap (λ (g : Fit). from_ecef (position g.params)) own,
      ap (λ (y : BestAt). y.norm) same ∙ ap (λ (g : Fit). norm_at C g.params) own,
    )

-- and a refusal is the outcome's
told_why : (C : Chosen) (o : Outcome Unfit Fit) (e : Unfit) → Err e ≡ as_best_at C o → o ≡ refuses e
told_why C (refuses u) e h = let same : e ≡ u = cc in ap refuses (sym same)
told_why C (gives f) e h = cc

-- over the receptions S
module _ (R : Receptions) (S : Subset) (p : Option (List Float)) where
  abbrev heard : Chosen
  heard = chosen_over R S (array_of (whitener_over R S))

  -- beside a fit that is found stands its place
  pub best-place : (x : BestAt) → Ok x ≡ held_over R S p → x.place ≡ from_ecef (position x.fit.params)
  best-place x h = (told-fit heard (best_fit_over R S p) x h).1

  -- and its rounding norm, by the factor that the round's whitener found
  pub best-norm : R.n ≤ 32 → (x : BestAt) → Ok x ≡ held_over R S p → NormOf R S x.fit x.norm
  best-norm n x h =
      let t = told-fit heard (best_fit_over R S p) x h in
      let w = ((answered-over R S p).found n x.fit).0 t.0 in
      (w.0, w.2.whitens, t.2 ∙ ap (λ (F : Factor). norm_at (chosen_over R S (array_of F)) x.fit.params) w.2.whitens)

module _ (R : Receptions) (K : ℕ) (reference : ℤ) (N : R.n ≤ 32) (mask : ℕ) (M : mask < 2 ^ R.n) (p : Option (List Float)) (c : ℕ)
    (C : c ≡ count (has mask) 32) where
  abbrev P : Setting (List Float) Fit Fix
  P = setting_of R (has K) reference

  counted : c ≡ count (has mask) R.n
  counted = C ∙ count-within R.n mask M N

  pub round-few : c < minimum R.altitude → ends (TooFew c) ≡ round P (has mask) p
  unfolding round
  round-few h =
      ap (λ (k : ℕ). ends (TooFew k)) counted
      ∙ sym (ap (λ (b : Bool). begun P (has mask) b (P.best_fit (has mask) p))
      (lt-ltb (count (has mask) R.n) (minimum R.altitude) (subst (λ (k : ℕ). k < minimum R.altitude) counted h)))

  enough : minimum R.altitude ≤ c → (o : Outcome Unfit Fit) → o ≡ P.best_fit (has mask) p → begun P (has mask) false o ≡ round P (has mask) p
  unfolding round
  enough h o e = sym (ap₂ (λ (b : Bool) (q : Outcome Unfit Fit). begun P (has mask) b q)
      (le-ltb (count (has mask) R.n) (minimum R.altitude) (subst (λ (k : ℕ). minimum R.altitude ≤ k) counted h)) (sym e))

  module _ (h : minimum R.altitude ≤ c) where
    pub round-unfit : (why : Unfit) → Err why ≡ held_over R (has mask) p → ends (of_unfit why) ≡ round P (has mask) p
    round-unfit why e = enough h (refuses why) (sym (told_why (heard R (has mask) p) (best_fit_over R (has mask) p) why e))

    pub round-fitted : (b : BestAt) → Ok b ≡ held_over R (has mask) p
        → (z : List Float) → ((j : ℕ) → j < R.n → nth z j ≡ normalised R b.fit.params j)
        → (t : Result Turn Refusal) → step_of t b.fit ≡ decided (has K) (has mask) (nth z) R.n b.fit → step_of t b.fit ≡ round P (has mask) p
    round-fitted b e z Z t u =
        let f : Fit = b.fit in
        u ∙ decided-same (kept P) (has mask) (nth z) (P.residual f) R.n f (λ j l s. Z j l)
        ∙ enough h (gives f) (sym (told-fit (heard R (has mask) p) (best_fit_over R (has mask) p) b e).0)
