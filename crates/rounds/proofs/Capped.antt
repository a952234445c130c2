-- The cap on rounds: no fixed point is answered exactly where every round made a change, and where a round made none the
-- rounds after it are never begun, so that a larger cap changes nothing. Assumes nothing.
use Rattle.std.proofs.Common.{◌≡◌, ℕ, suc, ◌+◌, ◌-◌, ◌*◌, ◌≤◌, ◌≢◌, sym, refl, ◌∙◌, arith}
use mathlib.Core.Option.{none}
use Rattle.problem.specs.declared.Problem.{Problem}
use Rattle.rounds.specs.Setting.{Answer, no_fixed_point, Setting, kept, survivors}
use Rattle.rounds.specs.Rounds.{rounds_to, outlier_rounds}
use Rattle.rounds.specs.Demand.{EachChanged, rounds}
use Rattle.rounds.specs.Solve.{solve_problem}
use Rattle.rounds.specs.Unmoved.{capped, CapReached, SameAtLarger, CapsOfSolve}
use Rattle.rounds.proofs.Claim.{closed-never}
use Rattle.rounds.proofs.Chains.{all-kept, chain-within, after-chain, after-settled, after-end, Run, ended, settled, never, run}

module _ {Q F X : Type 0} (P : Setting Q F X) where
  each-changed : (cap : ℕ) (a : Answer X) → a ≡ no_fixed_point → Run P cap (kept P) none a → EachChanged P cap
  each-changed cap a h (ended k e l s w q) = absurd (let z : ◌≡◌ {A = ℕ} 0 1 = cc in omega arith)
  each-changed cap a h (settled {E = E} k f l s w q) = absurd (closed-never P (P.later E f) (sym q ∙ h))
  each-changed cap a h (never {E = E} {q = p} s q) = (E, p, s)

  unchanged : (cap : ℕ) → EachChanged P cap → capped P cap ≡ no_fixed_point
  unfolding rounds_to
  unchanged cap h = after-chain P h.2 (all-kept P) cap 0 (omega arith)

  same-later : (cap larger : ℕ) → cap ≤ larger → (a : Answer X) → a ≢ no_fixed_point → Run P cap (kept P) none a → capped P larger ≡ a
  same-later cap larger l a h (ended {E = E} {q = p} k e m s w q) =
      let left : ℕ = larger - suc k in
      after-chain P s (all-kept P) larger (suc left) (omega arith) ∙ after-end P E p e left (chain-within P s (all-kept P)) w ∙ sym q
  same-later cap larger l a h (settled {E = E} {q = p} k f m s w q) =
      let left : ℕ = larger - suc k in
      after-chain P s (all-kept P) larger (suc left) (omega arith) ∙ after-settled P E p f left (chain-within P s (all-kept P)) w ∙ sym q
  same-later cap larger l a h (never s q) = absurd (h q)

  -- the rounds under a cap, as demand 3 has them
  ran : (cap : ℕ) → Run P cap (kept P) none (capped P cap)
  ran cap = run P cap (kept P) none (all-kept P)

  same : (cap larger : ℕ) → cap ≤ larger → capped P cap ≢ no_fixed_point → capped P larger ≡ capped P cap
  same cap larger l h = same-later cap larger l (capped P cap) h (ran cap)

pub cap-reached : CapReached
cap-reached Q F X P cap = ((λ h. each-changed P cap (capped P cap) h (ran P cap)), λ h. unchanged P cap h)

pub same-at-larger : SameAtLarger
same-at-larger Q F X P cap larger l h = same P cap larger l h

-- ---- of the solve
of-solve : (P : Problem) → solve_problem P ≡ capped (rounds P) (2 * survivors (rounds P) + 2)
unfolding solve_problem outlier_rounds
of-solve P = refl

pub caps-of-solve : CapsOfSolve
caps-of-solve P =
    let most : ℕ = 2 * survivors (rounds P) + 2 in
    record {
      answer = of-solve P;
      larger = λ cap l h. same (rounds P) most cap l (λ e. h (of-solve P ∙ e)) ∙ sym (of-solve P);
      smaller = λ cap l h. sym (of-solve P ∙ same (rounds P) cap most l h);
    }
