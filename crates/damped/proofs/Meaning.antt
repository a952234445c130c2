-- The statements of specs/Meaning.antt. A step's verdict follows from its factor, its cost, its size and lambda. Assumes nothing.
use mathlib.Core.Path.{◌≡◌, refl, sym, ap, subst, ◌∙◌}
use mathlib.Core.Bool.{Bool, true, false, cond, ◌&&◌, false≢true}
use mathlib.Core.List.{List}
use Prim.Native.Nat.{ℕ, zero, suc, ◌+◌, ◌*◌, ◌<◌}
use native.Mathlib.Omega.{arith}
use lib.Dec.{T, not_T, ltb→lt, lt→ltb}
use lib.IntN.{ℤ, negsuc}
use lib.ListN.{set, replicate}
use lib.Ieee.{Float, nan, inf, fin, up, down, neg, lt, le, round, of_bits}
use Rattle.binary64.specs.Steps.{◌⊗◌, #, nought, decimal, abs, is_finite}
use Rattle.sets.proofs.Tests.{T→eq, F→eq, eq→T, and_l, and_r, and_both}
use Rattle.dense.specs.Entries.{nth}
use Rattle.dense.specs.Factor.{Factor, found, refused}
use Rattle.problem.specs.Problem.{four}
use Rattle.whitening.specs.Whitened.{Chosen}
use Rattle.whitening.specs.Normal.{evaluated}
use Rattle.damped.specs.declared.Lm.{Lm}
use Rattle.damped.specs.declared.Verdict.{Verdict}
use Rattle.damped.specs.declared.Verdict.TheVariants.{Accepted, Converged, Rejected, Stopped, Failed}
use Rattle.damped.specs.declared.Stepped.{Stepped}
use Rattle.damped.specs.declared.Fit.{Fit}
use Rattle.damped.specs.Damped.{solved, descent, candidate, small, better, accepted, rejected, stepped, step, fitted, unfitted, settled, plain, after}
use Rattle.damped.specs.Damped.{run}
use Rattle.damped.specs.Meaning.{Below, SmallIsBelow, SmallAtTolerance, step_by, plain_factor, damped_factor, cost_by, Taken}
use Rattle.damped.specs.Meaning.{ConvergesBelow, StopsAbove, NoFactorNoFit, LastStepBelow}

-- ---- a size below a limit: between its two signs
between : (v : Float) (m : ℕ) (e : ℤ) → T (lt (abs v) (fin false m e)) → T (lt (neg (fin false m e)) v) × T (lt v (fin false m e))
unfolding lt neg abs
between nan m e h = absurd h
between (inf s) m e h = absurd h
between (fin false n d) m e h =
    let a = n * up d * down e in
    let b = m * up e * down d in
    (lt→ltb 0 (b + a) (omega (arith, ltb→lt a b h)), h)
between (fin true n d) m e h =
    let a = n * up d * down e in
    let b = m * up e * down d in
    (h, lt→ltb 0 (a + b) (omega (arith, ltb→lt a b h)))

between-back : (v : Float) (m : ℕ) (e : ℤ) → T (lt (neg (fin false m e)) v) → T (lt v (fin false m e)) → T (lt (abs v) (fin false m e))
unfolding lt neg abs
between-back nan m e h k = h
between-back (inf true) m e h k = h
between-back (inf false) m e h k = k
between-back (fin false n d) m e h k = k
between-back (fin true n d) m e h k = h

tolerance-is : decimal 1 4 ≡ fin false 7378697629483821 (negsuc 65)
unfolding round
tolerance-is = refl

below-is : (v : Float) → T (lt (abs v) (decimal 1 4)) → T (lt (neg (decimal 1 4)) v) × T (lt v (decimal 1 4))
below-is v = subst (λ (c : Float). T (lt (abs v) c) → T (lt (neg c) v) × T (lt v c)) (sym tolerance-is) (between v 7378697629483821 (negsuc 65))

is_below : (v : Float) → T (lt (neg (decimal 1 4)) v) × T (lt v (decimal 1 4)) → T (lt (abs v) (decimal 1 4))
is_below v =
    subst (λ (c : Float). T (lt (neg c) v) × T (lt v c) → T (lt (abs v) c)) (sym tolerance-is)
    (λ h. between-back v 7378697629483821 (negsuc 65) h.0 h.1)

-- four tests in a row
module _ (p : ℕ → Bool) where
  abbrev all : Bool
  all = p 0 && (p 1 && (p 2 && p 3))

  each : T all → (i : ℕ) → i < 4 → T (p i)
  each h zero l = and_l (p 0) (p 1 && (p 2 && p 3)) h
  each h (suc zero) l = and_l (p 1) (p 2 && p 3) (and_r (p 0) (p 1 && (p 2 && p 3)) h)
  each h (suc (suc zero)) l = and_l (p 2) (p 3) (and_r (p 1) (p 2 && p 3) (and_r (p 0) (p 1 && (p 2 && p 3)) h))
  each h (suc (suc (suc zero))) l = and_r (p 2) (p 3) (and_r (p 1) (p 2 && p 3) (and_r (p 0) (p 1 && (p 2 && p 3)) h))
  each h (suc (suc (suc (suc i)))) l = absurd (omega arith)

  together : ((i : ℕ) → i < 4 → T (p i)) → T all
  together h =
      and_both (p 0) (p 1 && (p 2 && p 3)) (h 0 (omega arith))
      (and_both (p 1) (p 2 && p 3) (h 1 (omega arith)) (and_both (p 2) (p 3) (h 2 (omega arith)) (h 3 (omega arith))))

pub small-is-below : SmallIsBelow
unfolding small
small-is-below x =
    let p : ℕ → Bool = λ i. lt (abs (nth x i)) (decimal 1 4) in
    ((λ h i l. below-is (nth x i) (each p h i l)), λ h. together p (λ i l. is_below (nth x i) (h i l)))

pub small-at-tolerance : SmallAtTolerance
unfolding small abs lt round of_bits
small-at-tolerance = (refl, go)
  where
    go : (i : ℕ) → i < 4 → small (set (replicate 4 nought) i (# 0x3F1A36E2EB1C432D)) ≡ false
    go zero l = refl
    go (suc zero) l = refl
    go (suc (suc zero)) l = refl
    go (suc (suc (suc zero))) l = refl
    go (suc (suc (suc (suc i)))) l = absurd (omega arith)

-- ---- a step, by its factor
module _ (C : Chosen) (s : Lm) where
  abbrev past : Bool
  past = lt (decimal 1_000_000_000_000 0) (s.lambda ⊗ decimal 10 0)

  abbrev untaken : Verdict
  untaken = cond past Stopped Rejected

  abbrev verdict_by : Factor → Verdict
  verdict_by (found l) = cond (better (cost_by C s l) s.cost) (cond (small (step_by s l)) Converged Accepted) untaken
  verdict_by (refused l) = Failed

  abbrev candidate_by : List Float → List Float
  candidate_by l = candidate s.params (step_by s l)

  tried-by : (l : List Float) (b : Bool)
      → (cond b (accepted s.lambda (step_by s l) (candidate_by l) (evaluated C (candidate_by l))) (rejected s)).verdict
      ≡ cond b (cond (small (step_by s l)) Converged Accepted) untaken
  unfolding accepted rejected
  tried-by l true = refl
  tried-by l false = refl

  abbrev by : Factor → Stepped
  by G = stepped C s (solved G (four (λ i. neg (nth s.gradient i))))

  by-factor : (F : Factor) → damped_factor s ≡ F → (step C s).verdict ≡ verdict_by F
  unfolding step descent
  by-factor F e = ap (λ (G : Factor). (by G).verdict) e ∙ go F
    where
      go : (G : Factor) → (by G).verdict ≡ verdict_by G
      go (found l) = tried-by l (better (cost_by C s l) s.cost)
      go (refused l) = refl

  taken_is : (l : List Float) → damped_factor s ≡ found l → better (cost_by C s l) s.cost ≡ true → Taken C s l
  unfolding better
  taken_is l e h =
      let finite : Bool = is_finite (cost_by C s l) in
      let low : Bool = le (cost_by C s l) s.cost in
      record { factors = e; finite = and_l finite low (eq→T h); no_more = and_r finite low (eq→T h) }

  is-taken : (l : List Float) → Taken C s l → better (cost_by C s l) s.cost ≡ true
  unfolding better
  is-taken l t =
      let finite : Bool = is_finite (cost_by C s l) in
      let low : Bool = le (cost_by C s l) s.cost in
      T→eq (finite && low) (and_both finite low t.finite t.no_more)

  abbrev Converges : Type 0
  Converges = (l : List Float) × Taken C s l × Below (step_by s l)

  abbrev Stops : Type 0
  Stops = (l : List Float) × (damped_factor s ≡ found l) × (Taken C s l → ⊥) × T past

  -- of a factor that is found, with the outcome of each test
  module _ (l : List Float) (e : damped_factor s ≡ found l) where
    converges-by
        : (b d t : Bool) → better (cost_by C s l) s.cost ≡ b → small (step_by s l) ≡ d
        → cond b (cond d Converged Accepted) (cond t Stopped Rejected) ≡ Converged → Converges
    converges-by true true t g h q = (l, taken_is l e g, (small-is-below (step_by s l)).0 (eq→T h))
    converges-by true false t g h q = absurd (let z : ◌≡◌ {A = ℕ} 0 1 = cc in omega arith)
    converges-by false d true g h q = absurd (let z : ◌≡◌ {A = ℕ} 0 1 = cc in omega arith)
    converges-by false d false g h q = absurd (let z : ◌≡◌ {A = ℕ} 0 1 = cc in omega arith)

    stops-by
        : (b d t : Bool) → better (cost_by C s l) s.cost ≡ b → past ≡ t
        → cond b (cond d Converged Accepted) (cond t Stopped Rejected) ≡ Stopped → Stops
    stops-by false d true g h q = (l, e, (λ k. false≢true (sym g ∙ is-taken l k)), eq→T h)
    stops-by false d false g h q = absurd (let z : ◌≡◌ {A = ℕ} 0 1 = cc in omega arith)
    stops-by true true t g h q = absurd (let z : ◌≡◌ {A = ℕ} 0 1 = cc in omega arith)
    stops-by true false t g h q = absurd (let z : ◌≡◌ {A = ℕ} 0 1 = cc in omega arith)

  converges : (F : Factor) → damped_factor s ≡ F → verdict_by F ≡ Converged → Converges
  converges (found l) e q = converges-by l e (better (cost_by C s l) s.cost) (small (step_by s l)) past refl refl q
  converges (refused l) e q = absurd (let z : ◌≡◌ {A = ℕ} 0 1 = cc in omega arith)

  stops : (F : Factor) → damped_factor s ≡ F → verdict_by F ≡ Stopped → Stops
  stops (found l) e q = stops-by l e (better (cost_by C s l) s.cost) (small (step_by s l)) past refl refl q
  stops (refused l) e q = absurd (let z : ◌≡◌ {A = ℕ} 0 1 = cc in omega arith)

pub converges-below : ConvergesBelow
converges-below C s = (
  (λ h. converges C s (damped_factor s) refl (sym (by-factor C s (damped_factor s) refl) ∙ h)),
  λ w. by-factor C s (found w.0) w.1.factors
      ∙ ap (λ (b : Bool). cond b (cond (small (step_by s w.0)) Converged Accepted) (untaken C s)) (is-taken C s w.0 w.1)
      ∙ ap (λ (b : Bool). cond b Converged Accepted) (T→eq (small (step_by s w.0)) ((small-is-below (step_by s w.0)).1 w.2)),
)

pub stops-above : StopsAbove
stops-above C s = (
  (λ h. stops C s (damped_factor s) refl (sym (by-factor C s (damped_factor s) refl) ∙ h)),
  λ w. by-factor C s (found w.0) w.1
      ∙ ap (λ (b : Bool). cond b (cond (small (step_by s w.0)) Converged Accepted) (untaken C s))
      (F→eq (better (cost_by C s w.0) s.cost) (not_T (better (cost_by C s w.0) s.cost)
      (λ t. w.2 (taken_is C s w.0 w.1 (T→eq (better (cost_by C s w.0) s.cost) t)))))
      ∙ ap (λ (b : Bool). cond b Stopped Rejected) (T→eq (past C s) w.3),
)

pub no-factor-no-fit : NoFactorNoFit
unfolding run
no-factor-no-fit C n s l e = ap (λ (v : Verdict). after v (step C s).state (run C n (step C s).state)) (by-factor C s (refused l) e)

-- ---- the last test
module _ (s : Lm) where
  abbrev by_last : Factor → Fit
  by_last F = settled s (solved F (four (λ i. neg (nth s.gradient i))))

  ok-is : (b : Bool) → (cond b (fitted s) unfitted).ok ≡ b
  ok-is true = refl
  ok-is false = refl

pub last-step-below : LastStepBelow
unfolding plain descent
last-step-below s = (
  (λ h. last (plain_factor s) refl h),
  λ w. subst (λ (F : Factor). T (by_last s F).ok) (sym w.1)
      (subst T (sym (ok-is s (small (step_by s w.0)))) ((small-is-below (step_by s w.0)).1 w.2)),
)
  where
    last : (F : Factor) → plain_factor s ≡ F → T (by_last s F).ok → (l : List Float) × (plain_factor s ≡ found l) × Below (step_by s l)
    last (found l) e h = (l, e, (small-is-below (step_by s l)).0 (subst T (ok-is s (small (step_by s l))) h))
    last (refused l) e h = absurd h
