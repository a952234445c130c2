-- The bytes of states, one after the other, and what is told of a problem. Assumes nothing.
use Prim.Native.Nat.{ℕ, zero, suc, ◌+◌, ◌*◌, ◌≤◌, ◌<◌}
use mathlib.Core.Path.{◌≡◌, refl, sym, ap, ap₂, ◌∙◌}
use mathlib.Core.Bool.{Bool}
use mathlib.Core.List.{List}
use native.Mathlib.Numerals.{add-one}
use native.Mathlib.Omega.{arith}
use lib.ListN.{length, get_or, replicate, length-replicate}
use lib.Ieee.{Float, binary64, to_bits}
use Rattle.binary64.specs.Steps.{nought}
use Rattle.dense.specs.Entries.{nth}
use Rattle.words.specs.Words.{put_u32, put_u64, put_f64, put_word}
use Rattle.words.proofs.Back.{put-length}
use Rattle.screen.specs.declared.Outcome.{Outcome}
use Rattle.screen.specs.Held.{pairs_of, Told}
use Rattle.screen.specs.Turns.{turn_of, clash_of}
use Rattle.problem.specs.declared.Problem.{Problem}
use Rattle.whitening.specs.Whitened.{fill_to}
use Rattle.whitening.proofs.Costs.{fill-at}
use Rattle.best.specs.OfProblem.{receptions_of}
use Rattle.record.specs.declared.content.Fix.{Fix}
use Rattle.record.specs.Record.{written}
use Rattle.rounds.specs.Solve.{normalised}
use Rattle.rounds.specs.Demand.{params_by}
use Rattle.why.specs.declared.State.{State}
use Rattle.why.specs.States.{clashing, residual_at, state_of, number_of, turn_in, clashes_in, residual_in, rows_at, states_to}
use Rattle.why.specs.Held.{state_in}

-- no byte comes or goes
rows-length : (s : List ℕ) (k : ℕ) (t : State) → length (written s (rows_at k t)) ≡ length s
unfolding put_u32 put_u64 put_f64
rows-length s k t =
    let first = put_word 4 s k (number_of t) in
    let second = put_word 4 first (k + 4) (turn_in t) in
    let third = put_word 4 second (k + 8) (clashes_in t) in
    put-length 8 third (k + 12) (to_bits binary64 (residual_in t))
    ∙ put-length 4 second (k + 8) (clashes_in t)
    ∙ put-length 4 first (k + 4) (turn_in t)
    ∙ put-length 4 s k (number_of t)

pub states-length : (out : List ℕ) (f : ℕ → State) (k : ℕ) → length (states_to out f k) ≡ length out
unfolding states_to
states-length out f zero = refl
states-length out f (suc k) = rows-length (states_to out f k) (20 * k) (f k) ∙ states-length out f k

-- one state more
pub states-next
    : (out : List ℕ) (f : ℕ → State) (i : ℕ) (now after : List ℕ) (s : State)
    → now ≡ states_to out f i → s ≡ f i → after ≡ written now (rows_at (20 * i) s) → after ≡ states_to out f (i + 1)
unfolding states_to
states-next out f i now after s n e a =
    a ∙ ap₂ (λ (l : List ℕ) (t : State). written l (rows_at (20 * i) t)) n e ∙ ap (states_to out f) (sym (add-one i))

-- alike where the states are alike
states-same : (out : List ℕ) (f g : ℕ → State) (k : ℕ) → ((j : ℕ) → j < k → f j ≡ g j) → states_to out f k ≡ states_to out g k
unfolding states_to
states-same out f g zero h = refl
states-same out f g (suc k) h =
    ap₂ (λ (l : List ℕ) (t : State). written l (rows_at (20 * k) t)) (states-same out f g k (λ j l. h j (omega arith))) (h k (omega arith))

-- what the removals and the residuals tell of a problem with a fix are its states
module _ (P : Problem) (x : Fix) (N : P.n ≤ 32) (rows : List ℕ) (o : Outcome) (z : List Float) where
  pub told
      : pairs_of rows ≡ clashing P → Told P.n (pairs_of rows) o
      → z ≡ fill_to (replicate 32 nought) (normalised (receptions_of P) (params_by P x)) P.n
      → (out : List ℕ) → states_to out (state_in x.mask o.turns o.clashes z) P.n ≡ states_to out (state_of P x) P.n
  unfolding state_of
  told e t r out = states-same out (state_in x.mask o.turns o.clashes z) (state_of P x) P.n (λ j l. each j l)
    where
      turn_is : (j : ℕ) → get_or o.turns j 0 ≡ turn_of P.n (clashing P) j
      turn_is j = t.turns j ∙ ap (λ (bad : ℕ → ℕ → Bool). turn_of P.n bad j) e

      clash-is : (j : ℕ) → get_or o.clashes j 0 ≡ clash_of P.n (clashing P) j
      clash-is j = t.clashes j ∙ ap (λ (bad : ℕ → ℕ → Bool). clash_of P.n bad j) e

      residual-is : (j : ℕ) → j < P.n → nth z j ≡ residual_at P x j
      residual-is j l =
          ap (λ (a : List Float). nth a j) r
          ∙ fill-at (normalised (receptions_of P) (params_by P x)) (replicate 32 nought) P.n j (rw (length-replicate {A = Float} 32 nought) N) l

      each : (j : ℕ) → j < P.n → state_in x.mask o.turns o.clashes z j ≡ state_of P x j
      each j l = rw (turn_is j, clash-is j, residual-is j l)
