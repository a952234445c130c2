-- A round's best fit over a set of receptions is what specs/Meaning.antt says of it: its gathered sites are those of the set. Assumes nothing.
use mathlib.Core.Path.{◌≡◌, refl, sym, ap, subst, ◌∙◌}
use mathlib.Core.Logic.{◌↔◌}
use mathlib.Core.Option.{Option}
use mathlib.Core.List.{List}
use Prim.Native.Nat.{ℕ, ◌≤◌, ◌<◌}
use native.Mathlib.Omega.{arith}
use lib.Dec.{T}
use lib.ListN.{length-replicate, replicate}
use lib.Ieee.{Float, le}
use Rattle.binary64.specs.Steps.{nought}
use Rattle.dense.specs.Factor as factor
use Rattle.linalg.specs.Vec3.{sub, norm}
use Rattle.sets.specs.Sets.{Subset, count}
use Rattle.sets.proofs.Counting.{count-le}
use Rattle.sets.proofs.Listed.{Placed, placed}
use Rattle.problem.specs.Problem.{site_at, position, range}
use Rattle.whitening.specs.Whitened.{Chosen}
use Rattle.damped.specs.declared.Fit.{Fit}
use Rattle.best.specs.declared.Unfit.{Unfit}
use Rattle.best.specs.declared.Unfit.TheVariants.{NoConvergence, OutOfRange, Ambiguous, Singular}
use Rattle.best.specs.Plausible.{max_range_m}
use Rattle.best.specs.Best.{Outcome, refuses, gives, best, with_whitener}
use Rattle.best.specs.OfProblem.{Receptions, subset, subset_sites, whitener_over, chosen_over, starts_over, best_fit_over}
use Rattle.best.specs.Meaning.{IsBest, Rivalled, NoneConverges, NonePlausible, IsBestOver, Whitened, AnsweredOver}
use Rattle.best.proofs.Found.{answered}
use Rattle.best.proofs.Gathering.{sites-at}

module _ (R : Receptions) (S : Subset) (previous : Option (List Float)) (fit : Fit) (n : R.n ≤ 32) where
  -- reception j of S stands at some place of the gathered ones
  near-over : (l : List Float) (i : ℕ) → IsBest (chosen_over R S l) (starts_over R S previous) fit i → (j : ℕ) → j < R.n → T (S j)
      → T (le (range R.site (position fit.params) j) max_range_m)
  near-over l i b j h t =
      let p : Placed S (replicate 32 0) R.n j = placed S (replicate 32 0) R.n j n h t in
      let few : count S R.n ≤ R.n = count-le S R.n in
      let same : site_at (subset_sites R.site R.n S) p.place ≡ site_at R.site j =
      sites-at R.site (subset R.n S) (replicate 96 nought) (count S R.n) (rw (length-replicate 96 nought) (omega arith)) p.place
      p.below ∙ ap (site_at R.site) p.there in
      subst (λ (s : List Float). T (le (norm (sub (position fit.params) s)) max_range_m)) same
      (subst (λ (g : Fit). T (le (range (subset_sites R.site R.n S) (position g.params) p.place) max_range_m)) (sym b.from)
      (b.leads.weighed.plausible.near p.place p.below))

  best-over : (l : List Float) (i : ℕ) → whitener_over R S ≡ factor.found l → IsBest (chosen_over R S l) (starts_over R S previous) fit i
      → IsBestOver R S previous fit l i
  best-over l i w b = record { whitens = w; best = b; near = near-over l i b }

-- ---- what a round answers, by its whitener
module _ (R : Receptions) (S : Subset) (previous : Option (List Float)) where
  abbrev best_over : List Float → Outcome Unfit Fit
  best_over l = best (chosen_over R S l) (starts_over R S previous)

  by-whitener : (F : factor.Factor) → whitener_over R S ≡ F → best_fit_over R S previous ≡ with_whitener F best_over
  unfolding best_fit_over
  by-whitener F e = ap (λ (x : factor.Factor). with_whitener x best_over) e

  -- an outcome that is not 6 is the best over whitened receptions
  not-refused : (o : Outcome Unfit Fit) → (refuses Singular ≡ o → ⊥) → best_fit_over R S previous ≡ o → (l : List Float)
      × (whitener_over R S ≡ factor.found l) × (best_over l ≡ o)
  not-refused o never e = go (whitener_over R S) refl
    where
      go : (F : factor.Factor) → whitener_over R S ≡ F → (l : List Float) × (whitener_over R S ≡ factor.found l) × (best_over l ≡ o)
      go (factor.found l) w = (l, w, sym (by-whitener (factor.found l) w) ∙ e)
      go (factor.refused l) w = absurd (never (sym (by-whitener (factor.refused l) w) ∙ e))

  -- and the other way round
  over : (o : Outcome Unfit Fit) (l : List Float) → whitener_over R S ≡ factor.found l → best_over l ≡ o → best_fit_over R S previous ≡ o
  over o l w e = by-whitener (factor.found l) w ∙ e

  -- a refusal of the best fit is one of the round
  refused_over
      : (u : Unfit) (Holds : Chosen → List (List Float) → Type 0) → (Singular ≡ u → ⊥)
      → ((C : Chosen) (starts : List (List Float)) → (best C starts ≡ refuses u) ↔ Holds C starts)
      → (best_fit_over R S previous ≡ refuses u) ↔ Whitened R S previous Holds
  refused_over u Holds never exactly = (to, from)
    where
      other : ◌≡◌ {A = Outcome Unfit Fit} (refuses Singular) (refuses u) → ⊥
      other e = never (cc)

      to : best_fit_over R S previous ≡ refuses u → Whitened R S previous Holds
      to e = let w = not-refused (refuses u) other e in (w.0, w.1, (exactly (chosen_over R S w.0) (starts_over R S previous)).0 w.2)

      from : Whitened R S previous Holds → best_fit_over R S previous ≡ refuses u
      from h = over (refuses u) h.0 h.1 ((exactly (chosen_over R S h.0) (starts_over R S previous)).1 h.2)

  singular-over : (best_fit_over R S previous ≡ refuses Singular) ↔ ((l : List Float) × (whitener_over R S ≡ factor.refused l))
  singular-over = ((λ e. go (whitener_over R S) refl e), λ h. by-whitener (factor.refused h.0) h.1)
    where
      go : (F : factor.Factor) → whitener_over R S ≡ F → best_fit_over R S previous ≡ refuses Singular → (l : List Float)
          × (whitener_over R S ≡ factor.refused l)
      go (factor.found l) w e = absurd ((answered (chosen_over R S l) (starts_over R S previous)).not_singular (sym (by-whitener (factor.found l) w) ∙ e))
      go (factor.refused l) w e = (l, w)

  found-over : R.n ≤ 32 → (fit : Fit) → (best_fit_over R S previous ≡ gives fit) ↔ ((l : List Float) × (i : ℕ) × IsBestOver R S previous fit l i)
  found-over n fit = (
    to,
    λ h. over (gives fit) h.0 h.2.whitens
        (((answered (chosen_over R S h.0) (starts_over R S previous)).found fit).1 (h.1, h.2.best)),
  )
    where
      to : best_fit_over R S previous ≡ gives fit → (l : List Float) × (i : ℕ) × IsBestOver R S previous fit l i
      to e =
          let w = not-refused (gives fit) (λ q. let z : ◌≡◌ {A = ℕ} 0 1 = cc in omega arith) e in
          let b = ((answered (chosen_over R S w.0) (starts_over R S previous)).found fit).0 w.2 in
          (w.0, b.0, best-over R S previous fit n w.0 b.0 w.1 b.1)

pub answered-over : (R : Receptions) (S : Subset) (previous : Option (List Float)) → AnsweredOver R S previous
answered-over R S previous = record {
  found = found-over R S previous;
  ambiguous = refused_over R S previous Ambiguous Rivalled (λ e. let z : ◌≡◌ {A = ℕ} 0 1 = cc in omega arith)
      (λ C starts. (answered C starts).ambiguous);
  no_convergence = refused_over R S previous NoConvergence NoneConverges (λ e. let z : ◌≡◌ {A = ℕ} 0 1 = cc in omega arith)
      (λ C starts. (answered C starts).no_convergence);
  out_of_range = refused_over R S previous OutOfRange NonePlausible (λ e. let z : ◌≡◌ {A = ℕ} 0 1 = cc in omega arith)
      (λ C starts. (answered C starts).out_of_range);
  singular = singular-over R S previous;
}
