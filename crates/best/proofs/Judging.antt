-- The best, as an index that code holds, and what is made of it. Assumes nothing.
use mathlib.Core.Path.{◌≡◌, refl, sym, ap, ap₂, subst, ◌∙◌}
use mathlib.Core.Option as maybe
use mathlib.Core.Option.{some}
use mathlib.Core.Bool.{Bool, true, false, ◌&&◌}
use mathlib.Core.List.{List, map}
use Prim.Native.Nat.{ℕ}
use lib.Dec.{T, ltb}
use lib.ListN.{length}
use lib.Ieee.{Float}
use lib.Ieee.Bits.{is_true}
use Rattle.std.specs.Prelude.{Some, Ok, Err}
use Rattle.geo.specs.Geo.{from_ecef}
use Rattle.geo.specs.declared.Geodetic.{Geodetic}
use Rattle.dense.specs.Factor as factor
use Rattle.dense.specs.Held.{verdict}
use Rattle.linalg.specs.Methods.{zeros}
use Rattle.problem.specs.Problem.{position}
use Rattle.problem.specs.declared.Altitude.{Altitude}
use Rattle.whitening.specs.Covariance.{whitener}
use Rattle.whitening.specs.Whitened.{Chosen, Rows, rows}
use Rattle.whitening.specs.Held.{chosen}
use Rattle.whitening.specs.Whitened as whitening
use Rattle.limits.specs.Limits.{rounding_norm}
use Rattle.sets.specs.Sets.{Subset, count}
use Rattle.sets.specs.Choice.{choose}
use Rattle.sets.proofs.Tests.{and_l}
use Rattle.damped.specs.declared.Fit.{Fit}
use Rattle.damped.specs.Damped.{levenberg_marquardt}
use Rattle.best.specs.declared.Unfit.{Unfit}
use Rattle.best.specs.declared.Unfit.TheVariants.{Ambiguous, Singular}
use Rattle.best.specs.Plausible.{plausible}
use Rattle.best.specs.Best.{Outcome, gives, refuses, explains_alike, fit_at, cheaper, any_fit, weighed, rival, best_of, judged, best, with_whitener}
use Rattle.best.specs.Held.{norm_at, as_best_at, array_of, best_fit}
use Rattle.best.proofs.Passes.{choice, chosen-some}
use Rattle.best.proofs.Cheapest as cheapest

pub norm-is : (C : Chosen) (params : List Float) (m : ℕ) (r a b c d : List Float) → rows m r a b c d ≡ whitening.whitened C params
    → rounding_norm a b c d m ≡ norm_at C params
norm-is C params m r a b c d h = ap (λ (w : Rows). rounding_norm w.a w.b w.c w.d w.count) h

-- n fits, and the set S of those that are weighed
module _ (sites : List Float) (k : ℕ) (fits : List Fit) (n : ℕ) (all : length fits ≡ n) (S : Subset)
    (set : S ≡ (λ i. weighed sites k (fit_at fits i))) where
  abbrev answer : Outcome Unfit Fit
  answer = judged sites k fits (best_of sites k fits)

  chosen_is : (o : maybe.Option ℕ) → choose S (cheaper fits) n ≡ o → best_of sites k fits ≡ o
  chosen_is o e = ap₂ (λ (R : Subset) (m : ℕ). choose R (cheaper fits) m) (sym set) all ∙ e

  -- the index of the best
  module _ (top : ℕ) (h : Some top ≡ choice S fits n) where
    some_is : best_of sites k fits ≡ some top
    some_is = chosen_is (some top) (chosen-some (choose S (cheaper fits) n) top h)

    -- it is weighed, so it converged
    pub top-converged : (fit_at fits top).ok ≡ true
    top-converged =
        let t = (cheapest.chosen S (cheaper fits) n top (chosen-some (choose S (cheaper fits) n) top h)).0 in
        is_true (fit_at fits top).ok (and_l (fit_at fits top).ok (plausible sites k (fit_at fits top).params)
        (subst (λ (R : Subset). T (R top)) set t))

    module _ (r : Bool) (fit : Fit) (f : fit ≡ fit_at fits top)
        (e : r ≡ ltb 0 (count (λ i. S i && explains_alike fit (fit_at fits i)) n)) where
      rivalled : r ≡ any_fit (rival sites k (fit_at fits top)) fits
      rivalled =
          e ∙ ap₂ (λ (R : Subset) (m : ℕ). ltb 0 (count (λ i. R i && explains_alike fit (fit_at fits i)) m)) set (sym all)
          ∙ ap (λ (x : Fit). any_fit (rival sites k x) fits) f

      pub ambiguous : r ≡ true → refuses Ambiguous ≡ answer
      ambiguous g = rw (some_is, ← rivalled, g)

      pub alone : r ≡ false → gives fit ≡ answer
      alone g = rw (some_is, ← rivalled, g) (ap gives f)

      -- beside it its place and its norm
      pub alone_at : r ≡ false → (C : Chosen) (g : Geodetic) (x : Float) → g ≡ from_ecef (position fit.params) → x ≡ norm_at C fit.params
          → Ok (record { fit = fit; place = g; norm = x }) ≡ as_best_at C answer
      alone_at q C g x e n =
          ap₂ (λ (h : Geodetic) (y : Float). Ok (record { fit = fit; place = h; norm = y })) e n ∙ ap (as_best_at C) (alone q)

-- ---- the whitener first, whose answer the code holds as a flag b beside the array l
module _ (clock : List Float) (n : ℕ) (noise : List Float) (index : List ℕ) (sites z : List Float) (k : ℕ) (altitude : Altitude)
    (starts : List (List Float))
    (b : Bool) (l : List Float) (e : verdict b l ≡ whitener clock n noise index k zeros) where
  abbrev outcome : Outcome Unfit Fit
  outcome = best_fit clock n noise index sites z k altitude starts

  told-by : verdict b l ≡ whitener clock n noise index k zeros → with_whitener (verdict b l) (λ w. best (chosen k sites z w altitude) starts) ≡ outcome
  unfolding best_fit
  told-by f = ap (λ (F : factor.Factor). with_whitener F (λ w. best (chosen k sites z w altitude) starts)) f

  told-found : b ≡ true → (fits : List Fit) → fits ≡ map (levenberg_marquardt (chosen k sites z l altitude)) starts
      → judged sites k fits (best_of sites k fits) ≡ outcome
  unfolding best
  told-found t fits f =
      ap (λ (fs : List Fit). judged sites k fs (best_of sites k fs)) f
      ∙ ap (λ (x : Bool). with_whitener (verdict x l) (λ w. best (chosen k sites z w altitude) starts)) (sym t) ∙ told-by e

  told-refused : b ≡ false → refuses Singular ≡ outcome
  told-refused t = ap (λ (x : Bool). with_whitener (verdict x l) (λ w. best (chosen k sites z w altitude) starts)) (sym t) ∙ told-by e

  -- the array is the factor's
  array-of : (x : Bool) → l ≡ array_of (verdict x l)
  array-of true = refl
  array-of false = refl

  -- the receptions as the factor whitens them
  abbrev heard : Chosen
  heard = chosen k sites z (array_of (whitener clock n noise index k zeros)) altitude

  pub whitened-found : b ≡ true → (fits : List Fit) → fits ≡ map (levenberg_marquardt (chosen k sites z l altitude)) starts
      → as_best_at (chosen k sites z l altitude) (judged sites k fits (best_of sites k fits)) ≡ as_best_at heard outcome
  whitened-found t fits f = ap₂ as_best_at (ap (λ (w : List Float). chosen k sites z w altitude) (array-of b ∙ ap array_of e)) (told-found t fits f)

  pub whitened-refused : b ≡ false → Err Singular ≡ as_best_at heard outcome
  whitened-refused t = ap (as_best_at heard) (told-refused t)
