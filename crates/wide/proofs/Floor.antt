-- The floored root of a number is the greatest whose square is not above it, and the only one with its property. Assumes nothing.
use Rattle.std.proofs.Common.{◌≡◌, ℕ, ◌+◌, ◌*◌, ◌^◌, ◌<◌, ◌≤◌, lt_of_le_of_lt, le_antisymm, arith}
use Rattle.binary64.specs.Root.{floor_root}
use Rattle.binary64.proofs.Squares.{Floored, sq-lt}
use Rattle.binary64.proofs.Floor.{floored}
use Rattle.wide.specs.Root.{FloorRootIsGreatest}

below_next : (n a b : ℕ) → a * a ≤ n → n < (b + 1) * (b + 1) → a ≤ b
below_next n a b l g = let h : a < b + 1 = sq-lt a (b + 1) (lt_of_le_of_lt l g) in omega arith

pub greatest-root : FloorRootIsGreatest
greatest-root n = record { not-above = (floored n).0; greatest = λ s h. below_next n s (floor_root n) h (floored n).1 }

pub floored-unique : (n r : ℕ) → Floored n r → r ≡ floor_root n
floored-unique n r f = le_antisymm (below_next n r (floor_root n) f.0 (floored n).1) (below_next n (floor_root n) r (floored n).0 f.1)

pub positive : (x n : ℕ) → n < x * x → 0 < x
positive x n h = sq-lt 0 x (omega arith)

pub root-fits : (x n : ℕ) → x * x ≤ n → n < 2 ^ 72 → x < 2 ^ 36
root-fits x n l h = sq-lt x (2 ^ 36) (lt_of_le_of_lt l h)
