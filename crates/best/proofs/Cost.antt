-- The cost of a fit that converged is a number. A sum of squares is a number unless a residual is none, and then the gradient along the transmit time
-- is none either, and no step by it is small. Assumes nothing.
use mathlib.Core.Path.{◌≡◌, refl, sym, ap, subst, ◌∙◌}
use mathlib.Core.Logic.{◌⊎◌, inl, inr}
use mathlib.Core.Bool.{Bool, true, false, not, cond, ◌&&◌}
use mathlib.Core.List.{List, [], ◌∷◌}
use Prim.Native.Nat.{ℕ, zero, suc}
use lib.Dec.{T}
use lib.ListN.{replicate}
use lib.Ieee.{Float, Format, binary64, nan, inf, fin, add, sub, mul, div, neg, lt, le, is_nan, of_bits}
use Rattle.binary64.specs.Steps.{◌⊕◌, ◌⊗◌, decimal, nought, abs, is_finite}
use Rattle.binary64.proofs.Numbers.{add_none, none-add}
use Rattle.sets.proofs.Tests.{and_l, and_r}
use Rattle.dense.specs.Entries.{nth, minus_dots}
use Rattle.dense.specs.Factor.{Factor, found, refused, cholesky}
use Rattle.dense.specs.Solve.{solve, forward_to, backward_to}
use Rattle.problem.specs.Problem.{four}
use Rattle.whitening.specs.declared.Equations.{Equations}
use Rattle.whitening.specs.Whitened.{Chosen, Rows, whitened}
use Rattle.whitening.specs.Normal.{plus_multiple, normal_to, evaluated}
use Rattle.std.specs.Prelude.{Option, None, Some}
use Rattle.std.proofs.lemmas.Option.{none-some, same_Some}
use Rattle.damped.specs.declared.Fit.{Fit}
use Rattle.damped.specs.declared.Lm.{Lm}
use Rattle.damped.specs.declared.Stepped.{Stepped}
use Rattle.damped.specs.declared.Verdict.TheVariants.{Accepted, Converged, Rejected, Stopped}
use Rattle.damped.specs.Damped.{damped_to, solved, descent, candidate, below, small, better, accepted, rejected, stepped, step, fitted, unfitted}
use Rattle.damped.specs.Damped.{settled, plain, after}
use Rattle.damped.specs.Damped.{run}
use Rattle.damped.specs.Damped.{started, levenberg_marquardt}
use Rattle.binary64.proofs.Clear.{clear, add-clear, square-clear}

-- ---- sums of squares

clear-number : (x : Float) → T (clear x) → T (not (is_nan x))
unfolding is_nan
clear-number nan h = h
clear-number (inf s) h = tt
clear-number (fin s m e) h = tt

mul-none : (f : Format) (x : Float) → mul f x nan ≡ nan
unfolding mul
mul-none f nan = refl
mul-none f (inf s) = refl
mul-none f (fin s m e) = refl

-- the cost is clear, or the gradient along the transmit time is no number
abbrev Fine : Float → List Float → Type 0
Fine cost gradient = T (clear cost) ⊎ (nth gradient 3 ≡ nan)

normal-fine : (w : Rows) (i : ℕ) → Fine (normal_to w i).cost (normal_to w i).gradient
unfolding normal_to plus_multiple of_bits
normal-fine w zero = inl tt
normal-fine w (suc i) = go (nth w.r i) (nth w.d i) (normal_to w i).cost (nth (normal_to w i).gradient 3)
    (square-clear binary64 (nth w.r i)) (normal-fine w i)
  where
    go : (r d cost g : Float) → T (clear (r ⊗ r)) ⊎ (r ≡ nan) → T (clear cost) ⊎ (g ≡ nan) → T (clear (cost ⊕ r ⊗ r)) ⊎ (g ⊕ d ⊗ r ≡ nan)
    go r d cost g (inl s) (inl c) = inl (add-clear binary64 cost (r ⊗ r) c s)
    go r d cost g (inr e) c = inr (ap (λ (x : Float). g ⊕ d ⊗ x) e ∙ ap (λ (x : Float). g ⊕ x) (mul-none binary64 d) ∙ add_none binary64 g)
    go r d cost g (inl s) (inr e) = inr (ap (λ (x : Float). x ⊕ d ⊗ r) e ∙ none-add binary64 (d ⊗ r))

evaluated-fine : (C : Chosen) (p : List Float) → Fine (evaluated C p).cost (evaluated C p).gradient
unfolding evaluated
evaluated-fine C p = normal-fine (whitened C p) (whitened C p).count

-- ---- a step by such a gradient
solve-none : (l : List Float) (a b c : Float) → nth (solve l 4 (a ∷ b ∷ c ∷ nan ∷ [])) 3 ≡ nan
unfolding forward_to backward_to minus_dots sub add div
solve-none l a b c = refl

none-small : (x : List Float) → nth x 3 ≡ nan → T (small x) → ⊥
unfolding small abs lt
none-small x e h =
    let last = and_r (below (nth x 0)) (below (nth x 1) && (below (nth x 2) && below (nth x 3))) h in
    subst (λ (v : Float). T (below v)) e (and_r (below (nth x 2)) (below (nth x 3))
    (and_r (below (nth x 1)) (below (nth x 2) && below (nth x 3)) last))

descent-none : (m g x : List Float) → nth g 3 ≡ nan → descent m g ≡ Some x → T (small x) → ⊥
unfolding descent neg
descent-none m g x e h = go (cholesky m 4 (replicate 16 nought)) h
  where
    go : (F : Factor) → solved F (four (λ i. neg (nth g i))) ≡ Some x → T (small x) → ⊥
    go (refused l) q k = none-some x q
    go (found l) q k = none-small (solve l 4 (four (λ i. neg (nth g i))))
        (ap (λ (v : Float). nth (solve l 4 (neg (nth g 0) ∷ neg (nth g 1) ∷ neg (nth g 2) ∷ neg v ∷ [])) 3) e
        ∙ solve-none l (neg (nth g 0)) (neg (nth g 1)) (neg (nth g 2)))
        (subst (λ (y : List Float). T (small y)) (sym (same_Some (solve l 4 (four (λ i. neg (nth g i)))) x q)) k)

-- ---- the run
abbrev Number : Fit → Type 0
Number fit = T fit.ok → T (not (is_nan fit.cost))

finite_number : (x : Float) → T (is_finite x) → T (not (is_nan x))
unfolding is_finite is_nan
finite_number nan h = h
finite_number (inf s) h = tt
finite_number (fin s m e) h = tt

better-finite : (next cost : Float) → better next cost ≡ true → T (is_finite next)
unfolding better
better-finite next cost e = and_l (is_finite next) (le next cost) (subst T (sym e) tt)

plain-number : (s : Lm) → Fine s.cost s.gradient → Number (plain s)
unfolding plain
plain-number s f = go (descent s.information s.gradient) refl
  where
    held : (b : Bool) → Fine s.cost s.gradient → (nth s.gradient 3 ≡ nan → T b → ⊥) → Number (cond b (fitted s) unfitted)
    held false f never h = absurd h
    held true (inl c) never h = clear-number s.cost c
    held true (inr e) never h = absurd (never e tt)

    go : (o : Option (List Float)) → descent s.information s.gradient ≡ o → Number (settled s o)
    go None q h = absurd h
    go (Some x) q h = held (small x) f (λ e. descent-none s.information s.gradient x e q) h

module _ (C : Chosen) (n : ℕ) (more : (s : Lm) → Fine s.cost s.gradient → Number (run C n s)) where
  abbrev Goes : Stepped → Type 0
  Goes t = Number (after t.verdict t.state (run C n t.state))

  accepted-goes : (lambda : Float) (x candidate : List Float) (next : Equations) → Fine next.cost next.gradient → T (is_finite next.cost)
      → Goes (accepted lambda x candidate next)
  unfolding accepted
  accepted-goes lambda x candidate next f k = go (small x)
    where
      state : Lm
      state = (accepted lambda x candidate next).state

      go : (b : Bool) → Goes (record { state = state; verdict = cond b Converged Accepted })
      go true h = finite_number next.cost k
      go false h = more state f h

  rejected-goes : (s : Lm) → Fine s.cost s.gradient → Goes (rejected s)
  unfolding rejected
  rejected-goes s f = go (rejected s).state f (lt (decimal 1_000_000_000_000 0) (s.lambda ⊗ decimal 10 0))
    where
      go : (t : Lm) → Fine t.cost t.gradient → (b : Bool) → Goes (record { state = t; verdict = cond b Stopped Rejected })
      go t f true h = plain-number t f h
      go t f false h = more t f h

  step-goes : (s : Lm) → Fine s.cost s.gradient → Goes (step C s)
  unfolding step
  step-goes s f = go (descent (damped_to s.information s.lambda 4) s.gradient)
    where
      judge : (b : Bool) (x p : List Float) → better (evaluated C p).cost s.cost ≡ b
          → Goes (cond b (accepted s.lambda x p (evaluated C p)) (rejected s))
      judge true x p e = accepted-goes s.lambda x p (evaluated C p) (evaluated-fine C p) (better-finite (evaluated C p).cost s.cost e)
      judge false x p e = rejected-goes s f

      go : (o : Option (List Float)) → Goes (stepped C s o)
      go (Some x) = judge (better (evaluated C (candidate s.params x)).cost s.cost) x (candidate s.params x) refl
      go None = λ h. absurd h

run-number : (C : Chosen) (n : ℕ) (s : Lm) → Fine s.cost s.gradient → Number (run C n s)
unfolding run
run-number C zero s f = plain-number s f
run-number C (suc n) s f = step-goes C n (run-number C n) s f

pub cost-number : (C : Chosen) (start : List Float) → T (levenberg_marquardt C start).ok → T (not (is_nan (levenberg_marquardt C start).cost))
unfolding levenberg_marquardt
cost-number C start = run-number C 50 (started start (evaluated C start)) (evaluated-fine C start)
