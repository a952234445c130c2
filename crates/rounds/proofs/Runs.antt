-- The rounds' loop: what is left to answer after the rounds so far. Assumes nothing.
use Rattle.std.proofs.Common.{◌≡◌, ℕ, suc, ◌+◌, ◌-◌, ◌*◌, ◌^◌, ◌<◌, ◌≤◌, List, ℤ, sym, ap, ◌∙◌, subst, ap₂, arith}
use Rattle.std.specs.Prelude as std
use mathlib.Core.Option.{Option, none, some}
use lib.Ieee.{Float}
use Rattle.sets.specs.Sets.{Subset, count}
use Rattle.sets.specs.Mask.{has}
use Rattle.sets.proofs.Masks.{count-within}
use Rattle.problem.specs.declared.Problem.{Problem}
use Rattle.damped.specs.declared.Fit.{Fit}
use Rattle.best.specs.OfProblem.{Receptions, receptions_of}
use Rattle.record.specs.declared.content.Fix.{Fix}
use Rattle.rounds.specs.declared.answer.Refusal.{Refusal}
use Rattle.rounds.specs.declared.fitting.State.{State}
use Rattle.rounds.specs.declared.outliers.Turn.{Turn}
use Rattle.rounds.specs.declared.outliers.Turn.TheVariants.{Changes, Settles}
use Rattle.rounds.specs.declared.round.Step as code
use Rattle.rounds.specs.Setting.{refused, no_fixed_point, Setting, kept, survivors}
use Rattle.rounds.specs.Rounds.{Step, ends, changes, settles, closed, round, answer_after, rounds_to, outlier_rounds}
use Rattle.rounds.specs.Solve.{kept_at, setting_of, solve_problem}
use Rattle.rounds.specs.Unmoved.{capped}
use Rattle.rounds.specs.Held.{previous_of, step_of, step_by}
use Rattle.rounds.proofs.Choices.{Within}
use Rattle.rounds.proofs.Steps.{Says, round-says}
use Rattle.rounds.proofs.Chains.{change-within}

module _ (R : Receptions) (mask : ℕ) (reference : ℤ) (N : R.n ≤ 32) where
  abbrev P : Setting (List Float) Fit Fix
  P = setting_of R (has mask) reference

  -- what is left after the rounds so far: the included receptions are kept ones, and so many rounds more give the answer
  pub record Left (cap j : ℕ) (s : State) : Type 0 where
    pub answers : capped P cap ≡ rounds_to P j (has s.included) (previous_of s)
    pub keeps : Within P (has s.included)

  left : (cap j : ℕ) (S : Subset) (p : Option (List Float)) (s : State) → has s.included ≡ S → previous_of s ≡ p → capped P cap ≡ rounds_to P j S p
      → Within P S → Left cap j s
  left cap j S p s e q a w = record {
    answers = a ∙ ap₂ (λ (A : Subset) (o : Option (List Float)). rounds_to P j A o) (sym e) (sym q);
    keeps = subst (Within P) (sym e) w;
  }

  pub left-start : (s : State) (cap : ℕ) → s ≡ record { included = mask; previous = std.None } → Left cap (cap - 0) s
  left-start s cap i =
      left cap (cap - 0) (kept P) none s (ap (λ (x : State). has x.included) i) (ap previous_of i)
      (ap (λ (j : ℕ). rounds_to P j (kept P) none) (let d : cap ≡ cap - 0 = omega arith in d)) (λ j t. t)

  -- the cap of the solve
  pub solve-cap : (c : ℕ) → mask < 2 ^ R.n → c ≡ count (has mask) 32 → capped P (2 * c + 2) ≡ outlier_rounds P
  unfolding outlier_rounds
  solve-cap c m h =
      let t : count (kept P) R.n ≡ c = sym (count-within R.n mask m N) ∙ sym h in
      let d : 2 * c + 2 ≡ 2 * survivors P + 2 = omega (arith, t) in
      ap (λ (j : ℕ). rounds_to P j (kept P) none) d

  -- ---- one round more
  module _ (k cap : ℕ) (s : State) (t : std.Result code.Step Refusal) (E : step_by t ≡ round P (has s.included) (previous_of s)) (K : k < cap)
      (I : Left cap (cap - k) s) where
    next : (x : Step Fit) → x ≡ round P (has s.included) (previous_of s) → capped P cap
        ≡ answer_after P (λ S q. rounds_to P (cap - (k + 1)) S q) (has s.included) x
    unfolding rounds_to
    next x e =
        I.answers ∙ ap (λ (j : ℕ). rounds_to P j (has s.included) (previous_of s)) (let d : cap - k ≡ suc (cap - (k + 1)) = omega arith in d)
        ∙ ap (answer_after P (λ S q. rounds_to P (cap - (k + 1)) S q) (has s.included)) (sym e)

    pub left-ends : (why : Refusal) → t ≡ std.Err why → refused why ≡ capped P cap
    left-ends why e = sym (next (ends why) (ap step_by (sym e) ∙ E))

    told-by : (u : code.Step) → t ≡ std.Ok u → (v : Turn) → u.turn ≡ v → step_of (std.Ok v) u.fit ≡ round P (has s.included) (previous_of s)
    told-by u e v q = ap (λ (x : Turn). step_of (std.Ok x) u.fit) (sym q) ∙ ap step_by (sym e) ∙ E

    pub left-settles : (u : code.Step) → t ≡ std.Ok u → u.turn ≡ Settles → closed (P.later (has s.included) u.fit) ≡ capped P cap
    left-settles u e q = sym (next (settles u.fit) (told-by u e Settles q))

    pub left-changes : (u : code.Step) → t ≡ std.Ok u → (m : ℕ) → u.turn ≡ Changes m → (v : State)
        → v ≡ record { included = m; previous = std.Some u.fit.params } → Left cap (cap - (k + 1)) v
    left-changes u e m q v i =
        let step = told-by u e (Changes m) q in
        left cap (cap - (k + 1)) (has m) (some u.fit.params) v (ap (λ (x : State). has x.included) i) (ap previous_of i)
        (next (changes (has m) u.fit) step)
        (change-within P (subst (Says P (has s.included) (previous_of s)) (sym step)
        (round-says P (has s.included) (previous_of s) I.keeps)) I.keeps)

  pub left-never : (k cap : ℕ) (s : State) → cap ≤ k → Left cap (cap - k) s → no_fixed_point ≡ capped P cap
  unfolding rounds_to
  left-never k cap s l i = sym (i.answers ∙ ap (λ (j : ℕ). rounds_to P j (has s.included) (previous_of s)) (let d : cap - k ≡ 0 = omega arith in d))

-- the problem's setting, by what is kept and its reference
pub of-problem
    : (P : Problem) (kept : Subset) (reference : ℤ) → kept ≡ kept_at P.time P.site_mm P.n → reference ≡ P.reference_ps
    → outlier_rounds (setting_of (receptions_of P) kept reference) ≡ solve_problem P
unfolding solve_problem
of-problem P _ reference k e = ap₂ (λ (K : Subset) (r : ℤ). outlier_rounds (setting_of (receptions_of P) K r)) k e
