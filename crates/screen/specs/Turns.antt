-- When the screen removes a reception, and in how many failing pairs it is then. Document 02, item 9: "the turn of its
-- removal (from 1) and its clash count in that turn". Definitions and statements only: proofs/Turns.antt proves each.
use Rattle.std.specs.Prelude.{◌≡◌, ◌↔◌, Bool, not, T, eqb}
use Rattle.std.proofs.Math.Option.{some, Option-elim}
use Rattle.std.proofs.Math.Bool.{false, cond}
use Prim.Native.Nat.{ℕ, zero, suc, ◌<◌}
use Rattle.screen.specs.Screen.{clashes, goes, alive_to, kept}

module _ (n : ℕ) (fails : ℕ → ℕ → Bool) where
  -- reception j goes in turn t, from 1, in c failing pairs then
  pub record RemovedAt (j t c : ℕ) : Type 0 where
    pub before : ℕ
    pub turn : t ≡ suc before
    pub gone : goes n fails (alive_to n fails before) ≡ some j
    pub clash : c ≡ clashes n fails (alive_to n fails before) j

  -- ---- the same, as a computation

  -- whether j goes after k turns
  unfoldable pub takes : ℕ → ℕ → Bool
  unfolding goes alive_to Option-elim
  takes k j = Option-elim (goes n fails (alive_to n fails k)) false (eqb j)

  -- of the first k turns the one in which j goes, and its clash count then; 0 where it does not
  unfoldable pub turn_to : ℕ → ℕ → ℕ
  unfolding takes
  turn_to zero j = 0
  turn_to (suc k) j = cond (takes k j) (suc k) (turn_to k j)

  unfoldable pub clash_to : ℕ → ℕ → ℕ
  unfolding takes clashes
  clash_to zero j = 0
  clash_to (suc k) j = cond (takes k j) (clashes n fails (alive_to n fails k) j) (clash_to k j)

  -- of all turns: n are enough
  abbrev pub turn_of : ℕ → ℕ
  turn_of j = turn_to n j

  abbrev pub clash_of : ℕ → ℕ
  clash_of j = clash_to n j

-- a removal in turn t with c failing pairs is just what both say where t is above 0
abbrev pub TurnIsOfRemoval : Type 0
TurnIsOfRemoval =
    (n : ℕ) (fails : ℕ → ℕ → Bool) (j t c : ℕ)
    → RemovedAt n fails j t c ↔ ((0 < t) × (turn_of n fails j ≡ t) × (clash_of n fails j ≡ c))

-- no reception goes twice
abbrev pub RemovedOnce : Type 0
RemovedOnce =
    (n : ℕ) (fails : ℕ → ℕ → Bool) (j t u c d : ℕ)
    → RemovedAt n fails j t c → RemovedAt n fails j u d → (t ≡ u) × (c ≡ d)

-- one of the n goes in some turn where it is not kept, and nowhere else
abbrev pub RemovedOrKept : Type 0
RemovedOrKept = (n : ℕ) (fails : ℕ → ℕ → Bool) (j : ℕ) → j < n → T (not (kept n fails j)) ↔ (0 < turn_of n fails j)
