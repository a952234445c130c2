-- The first best of some candidates: the worst that goes, the least that comes back, the best fit. Ties go to the
-- lowest index. `p i` says that i is a candidate, and `beats i j` that i is better than j. Definitions and statements
-- only: proofs/Choosing.antt proves each.
use Rattle.std.specs.Prelude.{◌≡◌, ◌⊎◌, Bool, true, false, not, cond, ℕ, zero, suc, ◌<◌, T}
use Rattle.std.proofs.Math.Option.{Option, none, some}

-- the choice so far, and index k, which is a candidate or not: a later one has to be better
unfoldable pub consider : (ℕ → ℕ → Bool) → Bool → ℕ → Option ℕ → Option ℕ
consider beats false k o = o
consider beats true k none = some k
consider beats true k (some b) = cond (beats k b) (some k) (some b)

-- the choice among the indices below k, by one pass from 0 up
unfoldable pub choose : (ℕ → Bool) → (ℕ → ℕ → Bool) → ℕ → Option ℕ
unfolding consider
choose p beats zero = none
choose p beats (suc k) = consider beats (p k) k (choose p beats k)

-- ---- what the choice is

-- i is a candidate below k that none of them beats, and it beats each candidate before it
pub record FirstBest (p : ℕ → Bool) (beats : ℕ → ℕ → Bool) (k i : ℕ) : Type 0 where
  pub below : i < k
  pub candidate : T (p i)
  pub unbeaten : (j : ℕ) → j < k → T (p j) → T (not (beats j i))
  pub lowest : (j : ℕ) → j < i → T (p j) → T (beats i j)

-- that one, or none where there is no candidate
abbrev pub IsChoice : (ℕ → Bool) → (ℕ → ℕ → Bool) → ℕ → Option ℕ → Type 0
IsChoice p beats k none = (j : ℕ) → j < k → T (not (p j))
IsChoice p beats k (some i) = FirstBest p beats k i

-- `beats` ranks the candidates: no two beat each other, and a candidate j between i and k is beaten by i or beats k
pub record Ranks (p : ℕ → Bool) (beats : ℕ → ℕ → Bool) : Type 0 where
  pub asym : (i j : ℕ) → T (beats i j) → T (beats j i) → ⊥
  pub split : (i j k : ℕ) → T (p j) → T (beats i k) → T (beats i j) ⊎ T (beats j k)

-- the pass finds the choice, after every k
abbrev pub PassFindsChoice : Type 0
PassFindsChoice = (p : ℕ → Bool) (beats : ℕ → ℕ → Bool) → Ranks p beats → (k : ℕ)
    → IsChoice p beats k (choose p beats k)

-- and there is no other
abbrev pub OneChoice : Type 0
OneChoice = (p : ℕ → Bool) (beats : ℕ → ℕ → Bool) (k : ℕ) (o q : Option ℕ) → IsChoice p beats k o
    → IsChoice p beats k q → o ≡ q
