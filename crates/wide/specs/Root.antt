-- What document 01's "baseline the floored root" means, in squares alone. A statement only; `greatest-root` in
-- proofs/Floor.antt proves it.
use Rattle.std.specs.Prelude.{ℕ, ◌*◌, ◌≤◌}
use Rattle.binary64.specs.Root.{floor_root}

-- r is the greatest whole number whose square is not above n
pub record GreatestRoot (n r : ℕ) : Type 0 where
  pub not-above : r * r ≤ n
  pub greatest : (s : ℕ) → s * s ≤ n → s ≤ r

-- `floor_root`, which `isqrt` promises, is that number
abbrev pub FloorRootIsGreatest : Type 0
FloorRootIsGreatest = (n : ℕ) → GreatestRoot n (floor_root n)
