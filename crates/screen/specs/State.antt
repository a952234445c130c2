-- The state of the screen, and its steps. Document 02, item 3: "let its state hold, for each reception still in, the
-- number of failing pairs it has with others still in, and let every removal keep these numbers true. For each one
-- still in, after each step, the stored number equals the recount. A removed one holds 0. Survivors are the same as
-- before." Definitions and statements only: proofs/Stored.antt and proofs/Steps.antt prove each.
use Rattle.std.specs.Prelude.{◌≡◌, Bool, not, ◌&&◌, T, eqb, ltb}
use Rattle.std.proofs.Math.Option.{Option, Option-elim}
use Rattle.std.proofs.Math.Bool.{cond}
use Prim.Native.Nat.{ℕ, zero, suc, ◌-◌, ◌<◌}
use Rattle.sets.specs.Sets.{Subset, first, without}
use Rattle.sets.specs.Choice.{choose}
use Rattle.screen.specs.Screen.{clashes, alive_to}

-- those still in, and the number that is stored for each reception
pub record Held : Type 0 where
  pub alive : Subset
  pub counts : ℕ → ℕ

-- "the reception in most failing pairs goes, lowest index on ties", by the stored numbers of n; none where all are 0
unfoldable pub most_clashing : ℕ → (ℕ → ℕ) → Option ℕ
unfolding choose
most_clashing n counts = choose (λ i. ltb 0 (counts i)) (λ i j. ltb (counts j) (counts i)) n

-- the numbers once w goes: w holds 0, and one is taken off each other of A that fails with it. Nothing is counted anew
unfoldable pub lessened : (ℕ → ℕ → Bool) → Subset → ℕ → (ℕ → ℕ) → ℕ → ℕ
lessened fails A w counts i = cond (eqb i w) 0 (counts i - cond (A i && fails i w) 1 0)

-- w goes: one is taken off each that fails with it and is still in
unfoldable pub removed : (ℕ → ℕ → Bool) → Held → ℕ → Held
unfolding without lessened
removed fails s w = record { alive = without s.alive w; counts = lessened fails s.alive w s.counts }

-- of n receptions, where `fails i j` says that the pair i, j fails
module _ (n : ℕ) (fails : ℕ → ℕ → Bool) where
  -- at first all n are in, each with its clash count
  unfoldable pub start : Held
  unfolding clashes
  start = record { alive = first n; counts = λ i. cond (first n i) (clashes n fails (first n) i) 0 }

  -- the state after k steps, of which each removes the one in most failing pairs, if a pair fails
  unfoldable pub held_to : ℕ → Held
  unfolding start most_clashing removed Option-elim
  held_to zero = start
  held_to (suc k) = let s = held_to k in Option-elim (most_clashing n s.counts) s (removed fails s)

  -- the stored numbers are true
  pub record Counted (s : Held) : Type 0 where
    pub recount : (i : ℕ) → T (s.alive i) → s.counts i ≡ clashes n fails s.alive i
    pub gone : (i : ℕ) → T (not (s.alive i)) → s.counts i ≡ 0

-- "let every removal keep these numbers true"
abbrev pub RemovalKeepsCounts : Type 0
RemovalKeepsCounts =
    (n : ℕ) (fails : ℕ → ℕ → Bool) (s : Held) (w : ℕ) → w < n → T (s.alive w)
    → Counted n fails s → Counted n fails (removed fails s w)

-- "For each one still in, after each step, the stored number equals the recount."
abbrev pub StoredIsRecount : Type 0
StoredIsRecount =
    (n : ℕ) (fails : ℕ → ℕ → Bool) (k i : ℕ) → T (alive_to n fails k i)
    → (held_to n fails k).counts i ≡ clashes n fails (alive_to n fails k) i

-- "A removed one holds 0."
abbrev pub RemovedHoldsNone : Type 0
RemovedHoldsNone =
    (n : ℕ) (fails : ℕ → ℕ → Bool) (k i : ℕ) → T (not (alive_to n fails k i)) → (held_to n fails k).counts i ≡ 0

-- "Survivors are the same as before.": by the stored numbers the same are still in after each step as by the recount
abbrev pub SameSurvivors : Type 0
SameSurvivors = (n : ℕ) (fails : ℕ → ℕ → Bool) (k : ℕ) → (held_to n fails k).alive ≡ alive_to n fails k
