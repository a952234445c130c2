-- Of every reception of a solved problem one state holds, which is given: the statement of specs/Meaning.antt. What a used
-- reception is and a left out one rests on demand 3 (`Found`), what a removed one is on the screen's turns. Assumes nothing.
use mathlib.Core.Path.{◌≡◌, refl, sym, subst, ◌∙◌}
use mathlib.Core.Logic.{◌⊎◌, inl, inr}
use mathlib.Core.Bool.{Bool, true, false, not, cond}
use Prim.Native.Nat.{ℕ, ◌≤◌, ◌<◌}
use native.Mathlib.Omega.{arith}
use borrow.Author.Tests.{lt-ltb, ltb-true}
use lib.Dec.{T, ltb}
use Rattle.sets.proofs.Tests.{either, T→eq, F→eq, eq→T, eq→F}
use Rattle.screen.specs.Turns.{turn_of, clash_of}
use Rattle.screen.proofs.Turns.{turn-is-of-removal, removed-or-kept}
use Rattle.problem.specs.declared.Problem.{Problem}
use Rattle.record.specs.declared.content.Fix.{Fix}
use Rattle.rounds.specs.Setting.{fix, kept}
use Rattle.rounds.specs.Solve.{solve_problem}
use Rattle.rounds.specs.Demand.{Fixed, rounds, remaining, used_by, Found}
use Rattle.rounds.proofs.Found.{demand-met}
use Rattle.why.specs.declared.State.{State}
use Rattle.why.specs.declared.State.TheVariants.{Used, Removed, LeftOut}
use Rattle.why.specs.States.{clashing, residual_at, state_of}
use Rattle.why.specs.Meaning.{Holds, used, removed, left_out, OneStateHolds}

not-both : (b : Bool) → T b → T (not b) → ⊥
not-both true t f = f
not-both false t f = t

module _ (P : Problem) (N : P.n ≤ 32) (x : Fix) (solved : solve_problem P ≡ fix x) (j : ℕ) (below : j < P.n) where
  abbrev turn : ℕ
  turn = turn_of P.n (clashing P) j

  abbrev clash : ℕ
  clash = clash_of P.n (clashing P) j

  settled : Fixed (rounds P) (remaining P) x
  settled = ((demand-met P N).claim.fixed x).0 solved

  found : Found P x settled
  found = (demand-met P N).found x settled

  -- one that goes is not kept, and so not used
  gone-unkept : 0 < turn → T (not (kept (rounds P) j))
  gone-unkept h = (removed-or-kept P.n (clashing P) j below).1 h

  gone-unused : 0 < turn → used_by P x j ≡ false
  gone-unused h = go (used_by P x j) refl
    where
      go : (b : Bool) → used_by P x j ≡ b → b ≡ false
      go false e = refl
      go true e = absurd (not-both (kept (rounds P) j) (found.used_kept j (eq→T e)) (gone-unkept h))

  -- one that does not go is kept
  stays : ltb 0 turn ≡ false → T (kept (rounds P) j)
  stays e = go (either (kept (rounds P) j))
    where
      go : T (kept (rounds P) j) ⊎ T (not (kept (rounds P) j)) → T (kept (rounds P) j)
      go (inl t) = t
      go (inr f) =
          let q : true ≡ false = sym (lt-ltb 0 turn ((removed-or-kept P.n (clashing P) j below).0 f)) ∙ e in
          absurd (let z : ◌≡◌ {A = ℕ} 0 1 = cc in omega arith)

  used-holds : T (used_by P x j) → Holds P x j (Used (residual_at P x j))
  used-holds t = used t

  removed-holds : ltb 0 turn ≡ true → Holds P x j (Removed turn clash)
  removed-holds q = removed turn clash ((turn-is-of-removal P.n (clashing P) j turn clash).1 (ltb-true 0 turn q, refl, refl))

  left-out-holds : ltb 0 turn ≡ false → T (not (used_by P x j)) → Holds P x j (LeftOut (residual_at P x j))
  left-out-holds q f = left_out (stays q) f (found.beyond j (stays q) f)

  given : (u r : Bool) → used_by P x j ≡ u → ltb 0 turn ≡ r
      → Holds P x j (cond u (Used (residual_at P x j)) (cond r (Removed turn clash) (LeftOut (residual_at P x j))))
  given true r e q = used-holds (eq→T e)
  given false true e q = removed-holds q
  given false false e q = left-out-holds q (eq→F e)

  holds : Holds P x j (state_of P x j)
  unfolding state_of
  holds = given (used_by P x j) (ltb 0 turn) refl refl

  only : (s : State) → Holds P x j s → s ≡ state_of P x j
  unfolding state_of
  only s (used t) = rw (T→eq (used_by P x j) t)
  only s (removed t c r) =
      let told = (turn-is-of-removal P.n (clashing P) j t c).0 r in
      let h : 0 < turn = omega (arith, told.0, told.1) in
      rw (gone-unused h, lt-ltb 0 turn h, told.1, told.2)
  only s (left_out k u l) = rw (F→eq (used_by P x j) u) (go (ltb 0 turn) refl)
    where
      go : (b : Bool) → ltb 0 turn ≡ b → LeftOut (residual_at P x j) ≡ cond b (Removed turn clash) (LeftOut (residual_at P x j))
      go false e = refl
      go true e = absurd (not-both (kept (rounds P) j) k (gone-unkept (ltb-true 0 turn e)))

pub one-state-holds : OneStateHolds
one-state-holds P N x solved j below s = (only P N x solved j below s, λ e. subst (Holds P x j) (sym e) (holds P N x solved j below))
