-- Sets of receptions. A set is a test on indices: `T (S i)` says that reception i is in S. Definitions only.
use Rattle.std.specs.Prelude.{Bool, not, cond, ◌&&◌, ◌||◌, List, ℕ, zero, suc, ◌+◌, ltb, eqb, set}

abbrev pub Subset : Type 0
Subset = ℕ → Bool

-- document 01, the domain: "n 0 to 32" receptions
abbrev pub most_receptions : ℕ
most_receptions = 32

-- the receptions 0 to n - 1
abbrev pub first : ℕ → Subset
first n i = ltb i n

-- S and i
unfoldable pub joined : Subset → ℕ → Subset
joined S i j = S j || eqb j i

-- S less i
unfoldable pub without : Subset → ℕ → Subset
without S i j = S j && not (eqb j i)

-- how many of the receptions below n are in S
unfoldable pub count : Subset → ℕ → ℕ
count S zero = 0
count S (suc k) = cond (S k) 1 0 + count S k

-- whether one of the receptions below n is in S: Rust's `any`
abbrev pub any : Subset → ℕ → Bool
any S n = ltb 0 (count S n)

-- `subset` of solve.rs: those of S below n, ascending, in the array index
unfoldable pub members_to : Subset → List ℕ → ℕ → List ℕ
members_to S index zero = index
members_to S index (suc i) = let known = members_to S index i in cond (S i) (set known (count S i) i) known
