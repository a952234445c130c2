-- Document 02, item 10, "Answers that don't move": under a larger cap on rounds, and under other values of what the
-- screen removes. Statements only: proofs/Capped.antt and proofs/Unread.antt prove them.
use Rattle.std.specs.Prelude.{◌≡◌, ℕ, ◌+◌, ◌*◌, ◌≤◌, T, ◌≢◌, ◌↔◌}
use Rattle.std.proofs.Math.Option.{none}
use Rattle.dense.specs.Entries.{nth, at}
use Rattle.sets.specs.Sets.{Subset, most_receptions}
use Rattle.problem.specs.declared.Problem.{Problem}
use Rattle.rounds.specs.Setting.{Answer, no_fixed_point, Setting, kept, survivors}
use Rattle.rounds.specs.Rounds.{rounds_to}
use Rattle.rounds.specs.Demand.{EachChanged, rounds}
use Rattle.rounds.specs.Solve.{solve_problem}

-- ---- "Let the outlier rule have a cap on rounds, from 0 up"
module _ {Q F X : Type 0} (G : Setting Q F X) where
  -- its answer under a cap, from all kept receptions
  abbrev pub capped : ℕ → Answer X
  capped cap = rounds_to G cap (kept G) none

-- "and give no fixed point exactly when that many each made a change", as demand 3 has it
abbrev pub CapReached : Type 1
CapReached =
    (Q F X : Type 0) (G : Setting Q F X) (cap : ℕ)
    → (capped G cap ≡ no_fixed_point) ↔ EachChanged G cap

-- "an answer other than no fixed point at some cap is the same answer at each larger cap"
abbrev pub SameAtLarger : Type 1
SameAtLarger =
    (Q F X : Type 0) (G : Setting Q F X) (cap larger : ℕ) → cap ≤ larger
    → capped G cap ≢ no_fixed_point → capped G larger ≡ capped G cap

-- "The public entry stays at 2s+2 rounds."
abbrev pub solve_cap : Problem → ℕ
solve_cap P = 2 * survivors (rounds P) + 2

-- of the solve: its answer is the one under that cap; a larger one gives the same, unless it is no fixed point; and a
-- smaller one gives the same, or no fixed point
pub record UnderCaps (P : Problem) : Type 0 where
  pub answer : solve_problem P ≡ capped (rounds P) (solve_cap P)
  pub larger : (cap : ℕ) → solve_cap P ≤ cap → solve_problem P ≢ no_fixed_point → capped (rounds P) cap ≡ solve_problem P
  pub smaller :
      (cap : ℕ) → cap ≤ solve_cap P → capped (rounds P) cap ≢ no_fixed_point
      → capped (rounds P) cap ≡ solve_problem P

abbrev pub CapsOfSolve : Type 0
CapsOfSolve = (P : Problem) → UnderCaps P

-- ---- "take two valid problems alike except in z, noise and clock entries of receptions that the screen removes"

-- the receptions that it keeps
abbrev pub kept_of : Problem → Subset
kept_of P = kept (rounds P)

-- "Clock entries left of the diagonal may differ too."
pub record AlikeInKept (P Q : Problem) : Type 0 where
  pub n : P.n ≡ Q.n
  pub time : P.time ≡ Q.time
  pub site_mm : P.site_mm ≡ Q.site_mm
  pub site : P.site ≡ Q.site
  pub altitude : P.altitude ≡ Q.altitude
  pub reference_ps : P.reference_ps ≡ Q.reference_ps
  pub z : (i : ℕ) → T (kept_of P i) → nth P.z i ≡ nth Q.z i
  pub noise : (i : ℕ) → T (kept_of P i) → nth P.noise_m2 i ≡ nth Q.noise_m2 i
  pub clock :
      (i j : ℕ) → i ≤ j → T (kept_of P i) → T (kept_of P j)
      → at P.clock_m2 P.n i j ≡ at Q.clock_m2 P.n i j

-- their answers are equal: which it is, the detail of a refusal, and every number of a fix
abbrev pub RemovedUnread : Type 0
RemovedUnread = (P Q : Problem) → P.n ≤ most_receptions → AlikeInKept P Q → solve_problem P ≡ solve_problem Q
