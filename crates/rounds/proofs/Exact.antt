-- The steps after the rounds give each of their outcomes exactly where specs/Later.antt says. Assumes nothing.
use Rattle.std.proofs.Common.{◌≡◌, ℕ, zero, suc, ◌<◌, Bool, true, false, cond, not, ◌&&◌, ◌||◌, T, ◌⊎◌, List, ℤ, sym, refl, ap, ◌∙◌, subst, ap₂, inl, inr, arith, T_not}
use lib.Dec.{not_T}
use lib.Ieee.{Float, lt}
use Rattle.dense.specs.Factor.{Factor, found, refused}
use Rattle.sets.specs.Sets.{Subset}
use Rattle.sets.specs.Mask.{mask_of}
use Rattle.sets.proofs.Tests.{either, T→eq, F→eq, eq→T, eq→F, or_l, or_r, or_cases}
use Rattle.limits.specs.Local.{entry}
use Rattle.damped.specs.declared.Fit.{Fit}
use Rattle.best.specs.Best.{Outcome, refuses, gives}
use Rattle.best.specs.OfProblem.{Receptions, receptions_of, whitener_over}
use Rattle.record.specs.declared.content.Fix.{Fix}
use Rattle.rounds.specs.declared.finish.Unpublished.{Unpublished}
use Rattle.rounds.specs.declared.finish.Unpublished.TheVariants.{Inconsistent, Singular, Uncertain, OutOfRange}
use Rattle.rounds.specs.Finish.{fits_i64, max_variance_m2, wide, definite, certain, fix_of, inverted, finish, cholesky3}
use Rattle.rounds.specs.Solve.{dof_of, tested, later}
use Rattle.rounds.specs.Demand.{LaterExactly}
use Rattle.rounds.specs.Later.{TooWide, variance, indefinite, Certain, limit_by, final_factor, covariance_by, transmit, Consistent}
use Rattle.rounds.specs.Later.{Informed, Published, Withheld}

-- ---- the tests of the covariance
module _ (c : List (List Float)) where
  abbrev widest : ℕ → Bool
  widest axis = lt max_variance_m2 (entry c axis axis)

  wide-some : T (wide c) → (axis : ℕ) × (axis < 3) × T (widest axis)
  unfolding wide
  wide-some t = elim (or_cases (widest 0) (widest 1 || widest 2) t) [
    | inl x ↦ (0, omega arith, x)
    | inr u ↦ elim (or_cases (widest 1) (widest 2) u) [ inl y ↦ (1, omega arith, y) | inr z ↦ (2, omega arith, z) ]
  ]

  some-wide : (axis : ℕ) → axis < 3 → T (widest axis) → T (wide c)
  unfolding wide
  some-wide zero l t = or_l (widest 0) (widest 1 || widest 2) t
  some-wide (suc zero) l t = or_r (widest 0) (widest 1 || widest 2) (or_l (widest 1) (widest 2) t)
  some-wide (suc (suc zero)) l t = or_r (widest 0) (widest 1 || widest 2) (or_r (widest 1) (widest 2) t)
  some-wide (suc (suc (suc axis))) l t = absurd (omega (arith, l))

  by_parts : (w : Bool) (F : Factor) → wide c ≡ w → cholesky3 c ≡ F → certain c ≡ (not w && definite F)
  unfolding certain
  by_parts w F e f = ap₂ (λ (x : Bool) (G : Factor). not x && definite G) e f

  -- the covariance passes both tests, or fails one
  certain-cases : (Certain c × (certain c ≡ true)) ⊎ (TooWide c × (certain c ≡ false))
  certain-cases = go (wide c) refl (cholesky3 c) refl
    where
      go : (w : Bool) → wide c ≡ w → (F : Factor) → cholesky3 c ≡ F → (Certain c × (certain c ≡ true)) ⊎ (TooWide c × (certain c ≡ false))
      go true e F f = let s = wide-some (eq→T e) in inr (variance s.0 s.1 s.2, by_parts true F e f)
      go false e (refused l) f = inr (indefinite l f, by_parts false (refused l) e f)
      go false e (found l) f =
          inl (
            record {
              narrow = λ axis h. not_T (widest axis) (λ t. T_not (wide c) (eq→F e) (some-wide axis h t));
              factor = l;
              definite = f;
            },
            by_parts false (found l) e f,
          )

  is-certain : Certain c → certain c ≡ true
  is-certain h = by_parts false (found h.factor) (F→eq (wide c) (not_T (wide c) narrow)) h.definite
    where
      narrow : T (wide c) → ⊥
      narrow t = let s = wide-some t in T_not (widest s.0) (h.narrow s.0 s.1) s.2

  is_wide : TooWide c → certain c ≡ false
  is_wide (variance axis l t) = by_parts true (cholesky3 c) (T→eq (wide c) (some-wide axis l t)) refl
  is_wide (indefinite l e) = go (wide c) refl
    where
      go : (w : Bool) → wide c ≡ w → certain c ≡ false
      go true f = by_parts true (refused l) f e
      go false f = by_parts false (refused l) f e

-- ---- the steps, one after the other
module _ (R : Receptions) (reference : ℤ) (S : Subset) (fit : Fit) where
  abbrev x : List Float → Fix
  x m = fix_of (mask_of S R.n) (dof_of R S) fit (covariance_by m) (transmit reference fit)

  -- what may come of them
  data Came : Type 0 where
    unwhitened : (l : List Float) → whitener_over R S ≡ refused l → Came
    inconsistent : (l : List Float) → whitener_over R S ≡ found l → T (lt (limit_by R reference S fit l) fit.cost) → Came
    uninformed : (l m : List Float) → Consistent R reference S fit l → final_factor fit ≡ refused m → Came
    uncertain : (l m : List Float) → Informed R reference S fit l m → TooWide (covariance_by m) → Came
    beyond : (l m : List Float) → Informed R reference S fit l m → Certain (covariance_by m) → T (not (fits_i64 (transmit reference fit))) → Came
    shows : (l m : List Float) → Informed R reference S fit l m → Certain (covariance_by m) → T (fits_i64 (transmit reference fit)) → Came

  abbrev outcome : Came → Outcome Unpublished Fix
  outcome (unwhitened l w) = refuses Singular
  outcome (inconsistent l w t) = refuses Inconsistent
  outcome (uninformed l m h f) = refuses Singular
  outcome (uncertain l m h t) = refuses Uncertain
  outcome (beyond l m h k t) = refuses OutOfRange
  outcome (shows l m h k t) = gives (x m)

  -- ---- one of them does
  came : Came
  came = whitening (whitener_over R S) refl
    where
      timed : (l m : List Float) → Informed R reference S fit l m → Certain (covariance_by m)
          → T (fits_i64 (transmit reference fit)) ⊎ T (not (fits_i64 (transmit reference fit))) → Came
      timed l m h k (inl t) = shows l m h k t
      timed l m h k (inr t) = beyond l m h k t

      covered : (l m : List Float) → Informed R reference S fit l m → Came
      covered l m h = elim (certain-cases (covariance_by m)) [
        | inl k ↦ timed l m h k.0 (either (fits_i64 (transmit reference fit)))
        | inr k
            ↦ uncertain l m h k.0
      ]

      informing : (l : List Float) → Consistent R reference S fit l → (F : Factor) → final_factor fit ≡ F → Came
      informing l h (found m) e = covered l m (record { consistent = h; factors = e })
      informing l h (refused m) e = uninformed l m h e

      limiting : (l : List Float) → whitener_over R S ≡ found l
          → T (lt (limit_by R reference S fit l) fit.cost) ⊎ T (not (lt (limit_by R reference S fit l) fit.cost)) → Came
      limiting l w (inl t) = inconsistent l w t
      limiting l w (inr t) = informing l (record { whitens = w; within = t }) (final_factor fit) refl

      whitening : (F : Factor) → whitener_over R S ≡ F → Came
      whitening (found l) w = limiting l w (either (lt (limit_by R reference S fit l) fit.cost))
      whitening (refused l) w = unwhitened l w

  -- ---- and the steps give it
  abbrev finished : Outcome Unpublished Fix
  finished = finish (mask_of S R.n) (dof_of R S) reference fit

  by-whitener : (F : Factor) → whitener_over R S ≡ F → later R reference S fit ≡ tested R reference S fit F
  unfolding later
  by-whitener F e = ap (tested R reference S fit) e

  by-limit : (l : List Float) (b : Bool) → whitener_over R S ≡ found l → lt (limit_by R reference S fit l) fit.cost ≡ b → later R reference S fit
      ≡ cond b (refuses Inconsistent) finished
  by-limit l b w e = by-whitener (found l) w ∙ ap (λ (t : Bool). cond t (refuses Inconsistent) finished) e

  by-factor : (l : List Float) → Consistent R reference S fit l → (F : Factor) → final_factor fit ≡ F → later R reference S fit
      ≡ inverted (mask_of S R.n) (dof_of R S) reference fit F
  unfolding finish
  by-factor l h F e = by-limit l false h.whitens (F→eq (lt (limit_by R reference S fit l) fit.cost) h.within)
      ∙ ap (inverted (mask_of S R.n) (dof_of R S) reference fit) e

  by_tests : (l m : List Float) → Informed R reference S fit l m → (a b : Bool) → certain (covariance_by m) ≡ a → fits_i64 (transmit reference fit) ≡ b
      → later R reference S fit ≡ cond a (cond b (gives (x m)) (refuses OutOfRange)) (refuses Uncertain)
  by_tests l m h a b e f =
      by-factor l h.consistent (found m) h.factors
      ∙ ap₂ (λ (s t : Bool). cond s (cond t (gives (x m)) (refuses OutOfRange)) (refuses Uncertain)) e f

  came-out : (c : Came) → later R reference S fit ≡ outcome c
  came-out (unwhitened l w) = by-whitener (refused l) w
  came-out (inconsistent l w t) = by-limit l true w (T→eq (lt (limit_by R reference S fit l) fit.cost) t)
  came-out (uninformed l m h f) = by-factor l h (refused m) f
  came-out (uncertain l m h t) = by_tests l m h false (fits_i64 (transmit reference fit)) (is_wide (covariance_by m) t) refl
  came-out (beyond l m h k t) = by_tests l m h true false (is-certain (covariance_by m) k) (F→eq (fits_i64 (transmit reference fit)) t)
  came-out (shows l m h k t) = by_tests l m h true true (is-certain (covariance_by m) k) (T→eq (fits_i64 (transmit reference fit)) t)

  -- ---- each outcome is what is said of it
  abbrev Said : Outcome Unpublished Fix → Type 0
  Said (gives y) = Published R reference S fit y
  Said (refuses u) = Withheld R reference S fit u

  unwhitened-singular : (l : List Float) → whitener_over R S ≡ refused l → Withheld R reference S fit Singular
  unwhitened-singular l w = inl (l, w)

  above-inconsistent : (l : List Float) → whitener_over R S ≡ found l → T (lt (limit_by R reference S fit l) fit.cost)
      → Withheld R reference S fit Inconsistent
  above-inconsistent l w t = (l, w, t)

  uninformed-singular : (l m : List Float) → Consistent R reference S fit l → final_factor fit ≡ refused m → Withheld R reference S fit Singular
  uninformed-singular l m h f = inr (l, m, h, f)

  wide-uncertain : (l m : List Float) → Informed R reference S fit l m → TooWide (covariance_by m) → Withheld R reference S fit Uncertain
  wide-uncertain l m h t = (l, m, h, t)

  beyond-range : (l m : List Float) → Informed R reference S fit l m → Certain (covariance_by m) → T (not (fits_i64 (transmit reference fit)))
      → Withheld R reference S fit OutOfRange
  beyond-range l m h k t = (l, m, h, k, t)

  said : (c : Came) → Said (outcome c)
  said (unwhitened l w) = unwhitened-singular l w
  said (inconsistent l w t) = above-inconsistent l w t
  said (uninformed l m h f) = uninformed-singular l m h f
  said (uncertain l m h t) = wide-uncertain l m h t
  said (beyond l m h k t) = beyond-range l m h k t
  said (shows l m h k t) = record { l = l; m = m; informed = h; certain = k; in_i64 = t; shows = refl }

  pub gives-said : (o : Outcome Unpublished Fix) → later R reference S fit ≡ o → Said o
  gives-said o e = subst Said (sym (came-out came) ∙ e) (said came)

  withheld-given : (u : Unpublished) → Withheld R reference S fit u → later R reference S fit ≡ refuses u
  withheld-given Singular (inl h) = came-out (unwhitened h.0 h.1)
  withheld-given Singular (inr h) = came-out (uninformed h.0 h.1 h.2 h.3)
  withheld-given Inconsistent h = came-out (inconsistent h.0 h.1 h.2)
  withheld-given Uncertain h = came-out (uncertain h.0 h.1 h.2 h.3)
  withheld-given OutOfRange h = came-out (beyond h.0 h.1 h.2 h.3 h.4)

  pub said-given : (o : Outcome Unpublished Fix) → Said o → later R reference S fit ≡ o
  said-given (gives y) h = came-out (shows h.l h.m h.informed h.certain h.in_i64) ∙ ap gives (sym h.shows)
  said-given (refuses u) h = withheld-given u h

pub exact : LaterExactly
exact P = record {
  shows = λ S f x. (gives-said (receptions_of P) P.reference_ps S f (gives x), said-given (receptions_of P) P.reference_ps S f (gives x));
  withholds = λ S f u. (
    gives-said (receptions_of P) P.reference_ps S f (refuses u),
    said-given (receptions_of P) P.reference_ps S f
        (refuses u),
  );
}
