-- What is counted: every pattern of failing pairs once, and nothing else. Statements only: proofs/Once.antt,
-- proofs/Listing.antt, proofs/Sum.antt and proofs/Edges.antt prove each.
use Rattle.std.specs.Prelude.{◌≡◌, Bool, false, [], ◌∷◌, ℕ, zero, suc, ◌+◌, ◌-◌, ◌*◌, ◌/◌, ◌^◌, ◌<◌, T}
use Rattle.patterns.specs.Patterns.{pairs, failing, survivors, leaving, table}

-- a pattern of n receptions: which pairs fail, whichever of the two is named first, none with itself, and all of the n
pub record Pattern (n : ℕ) (fails : ℕ → ℕ → Bool) : Type 0 where
  pub either : (i j : ℕ) → fails i j ≡ fails j i
  pub self : (i : ℕ) → fails i i ≡ false
  pub within : (i j : ℕ) → T (fails i j) → (i < n) × (j < n)

-- ---- "Each pattern is counted exactly once": the numbers below 2 to the number of pairs are the patterns

-- n receptions have n (n - 1) / 2 pairs
abbrev pub PairsAre : Type 0
PairsAre = (n : ℕ) → pairs n ≡ n * (n - 1) / 2

-- each number stands for a pattern
abbrev pub EachIsPattern : Type 0
EachIsPattern = (n p : ℕ) → Pattern n (failing n p)

-- every pattern comes up
abbrev pub EveryPatternComesUp : Type 0
EveryPatternComesUp =
    (n : ℕ) (fails : ℕ → ℕ → Bool) → Pattern n fails → (p : ℕ) × (p < 2 ^ pairs n) × (failing n p ≡ fails)

-- none comes up twice
abbrev pub NoPatternTwice : Type 0
NoPatternTwice = (n p q : ℕ) → p < 2 ^ pairs n → q < 2 ^ pairs n → failing n p ≡ failing n q → p ≡ q

-- ---- "how many leave each number of survivors"

-- there are c patterns of n receptions that leave s: they can be listed, each once, from 0 to c - 1
pub record ThereAre (n s c : ℕ) : Type 0 where
  pub at : ℕ → ℕ → ℕ → Bool
  pub each : (k : ℕ) → k < c → Pattern n (at k) × (survivors n (at k) ≡ s)
  pub all : (fails : ℕ → ℕ → Bool) → Pattern n fails → survivors n fails ≡ s → (k : ℕ) × (k < c) × (at k ≡ fails)
  pub once : (k l : ℕ) → k < c → l < c → at k ≡ at l → k ≡ l

-- each count is the number of patterns that leave so many, in words that know nothing of their numbers
abbrev pub CountsArePatterns : Type 0
CountsArePatterns = (n s : ℕ) → ThereAre n s (leaving n s)

-- "and the counts add up to 2 to the number of pairs": those of 0 to n survivors, and of as many more as one likes; the
-- table has those of 0 to 6
unfoldable pub sum_to : (ℕ → ℕ) → ℕ → ℕ
sum_to f zero = 0
sum_to f (suc k) = f k + sum_to f k

abbrev pub CountsAddUp : Type 0
CountsAddUp = (n m : ℕ) → n < m → sum_to (leaving n) m ≡ 2 ^ (n * (n - 1) / 2)

-- no pattern leaves more than n
abbrev pub NoneBeyond : Type 0
NoneBeyond = (n s : ℕ) → n < s → leaving n s ≡ 0

-- and none leaves nobody, where there is somebody: the last one is in no failing pair
abbrev pub SomebodyIsLeft : Type 0
SomebodyIsLeft = (n : ℕ) → 0 < n → leaving n 0 ≡ 0

-- ---- the counts that document 02 states, and those of none and of one

abbrev pub SmallTables : Type 0
SmallTables =
    -- without receptions there is one pattern, which leaves none; and a single one stays
    (table 0 ≡ 1 ∷ 0 ∷ 0 ∷ 0 ∷ 0 ∷ 0 ∷ 0 ∷ [])
    × (table 1 ≡ 0 ∷ 1 ∷ 0 ∷ 0 ∷ 0 ∷ 0 ∷ 0 ∷ [])
    -- "For 2 receptions one pattern leaves 1 and one leaves 2."
    × (table 2 ≡ 0 ∷ 1 ∷ 1 ∷ 0 ∷ 0 ∷ 0 ∷ 0 ∷ [])
    -- "For 3 receptions, one leaves 1, six leave 2 and one leaves 3."
    × (table 3 ≡ 0 ∷ 1 ∷ 6 ∷ 1 ∷ 0 ∷ 0 ∷ 0 ∷ [])
