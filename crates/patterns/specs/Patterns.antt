-- Document 02, item 14: "what the screen does to a set of 0 to 6 receptions: of all patterns of failing pairs, how many
-- leave each number of survivors". Definitions only; Meaning.antt says what they come to.
use Rattle.std.specs.Prelude.{Bool, cond, ◌&&◌, List, [], ◌∷◌, ℕ, zero, suc, ◌+◌, ◌^◌, ltb, eqb}
use Rattle.refusals.specs.Refusals.{over_six}
use Rattle.sets.specs.Sets.{count}
use Rattle.sets.specs.Mask.{has}
use Rattle.screen.specs.Screen.{kept}

-- how many pairs n receptions have: each has one with every reception before it
unfoldable pub pairs : ℕ → ℕ
pairs zero = 0
pairs (suc a) = pairs a + a

-- A pattern is written as a number with a bit for each pair, reception after reception: bit `pairs a + b` is set where
-- the pair of a and an earlier b fails.
unfoldable pub clash : ℕ → ℕ → ℕ → Bool
unfolding pairs has
clash p a b = cond (ltb b a) (has p (pairs a + b)) (ltb a b && has p (pairs b + a))

-- the failing pairs of n receptions under pattern p
unfoldable pub failing : ℕ → ℕ → ℕ → ℕ → Bool
unfolding clash
failing n p a b = ltb a n && (ltb b n && clash p a b)

-- how many of n receptions the screen keeps where these pairs fail
unfoldable pub survivors : ℕ → (ℕ → ℕ → Bool) → ℕ
unfolding kept count
survivors n fails = count (kept n fails) n

-- how many patterns of n receptions leave s survivors
unfoldable pub leaving : ℕ → ℕ → ℕ
unfolding failing survivors pairs count
leaving n s = count (λ p. eqb (survivors n (failing n p)) s) (2 ^ pairs n)

-- the counts of n receptions as they are lent: entry s is of the patterns that leave s, from 0 to 6
unfoldable pub table : ℕ → List ℕ
unfolding leaving
table n = leaving n 0 ∷ leaving n 1 ∷ leaving n 2 ∷ leaving n 3 ∷ leaving n 4 ∷ leaving n 5 ∷ leaving n 6 ∷ []

-- "Turned away: 24 over six."
abbrev pub answer : ℕ → ℕ
answer n = cond (ltb 6 n) over_six 0

-- what a call leaves in the counts: those of n receptions, or what was there where it is turned away
abbrev pub counts_after : ℕ → List ℕ → List ℕ
counts_after n found = cond (ltb 6 n) found (table n)
