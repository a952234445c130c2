-- `screen::reaches` meets its contract: the squares decide (`root-reaches`) where they fit a word (`all-below`); elsewhere the baseline is at least
-- what one axis spans (`axis-reaches`), or the squares decide in 128 bits. Assumes nothing.
use Prim.Native.Nat.{ℕ, ◌*◌, ◌^◌, ◌≤◌}
use native.Mathlib.Omega.{arith}
use Rattle.screen.proofs.Reach.{all-below, small-square, axis-reaches, root-reaches}
use Rattle.screen.proofs.reaches.Goals as goal

-- each of the four is small, and so are the squares
record Small (x y z t : ℕ) : Type 0 where
  xx : x * x ≤ 2 ^ 62
  yy : y * y ≤ 2 ^ 62
  zz : z * z ≤ 2 ^ 62
  tt : t * t ≤ 2 ^ 62

small : (c : goal.Then-x-y-lt2147483648) → let s = c.args in Small s.x s.y s.z s.least
small c =
    let s = c.args in
    let b = all-below s.x s.y s.z s.least c.if-x-y-lt2147483648.true in
    record { xx = small-square s.x b.0; yy = small-square s.y b.1; zz = small-square s.z b.2; tt = small-square s.least b.3 }

pub overflow_mul-result : goal.overflow_mul-result
overflow_mul-result c = let s = small c in record { fits = omega arith }

pub overflow_mul-result-then-x-y-lt2147483648 : goal.overflow_mul-result-then-x-y-lt2147483648
overflow_mul-result-then-x-y-lt2147483648 c = let s = small c in record { fits = omega arith }

pub overflow_mul-result-then-x-y-lt2147483648-2 : goal.overflow_mul-result-then-x-y-lt2147483648-2
overflow_mul-result-then-x-y-lt2147483648-2 c = let s = small c in record { fits = omega arith }

pub overflow_add-result : goal.overflow_add-result
overflow_add-result c = let s = small c in record { fits = omega arith }

pub overflow_mul-result-then-x-y-lt2147483648-3 : goal.overflow_mul-result-then-x-y-lt2147483648-3
overflow_mul-result-then-x-y-lt2147483648-3 c = let s = small c in record { fits = omega arith }

pub overflow_add-result-then-x-y-lt2147483648 : goal.overflow_add-result-then-x-y-lt2147483648
overflow_add-result-then-x-y-lt2147483648 c = let s = small c in record { fits = omega arith }

pub returns-then-x-y-lt2147483648 : goal.returns-then-x-y-lt2147483648
returns-then-x-y-lt2147483648 c = root-reaches c.args.least _

pub returns-then-least-x : goal.returns-then-least-x
returns-then-least-x c = axis-reaches _ _ _ c.if-least-x.true (omega arith)

pub returns-then-least-y : goal.returns-then-least-y
returns-then-least-y c = axis-reaches _ _ _ c.if-least-y.true (omega arith)

pub returns-then-least-z : goal.returns-then-least-z
returns-then-least-z c = axis-reaches _ _ _ c.if-least-z.true (omega arith)

pub returns : goal.returns
returns c =
    rw (c.squared.ensures, c.squared-2.ensures, c.squared-3.ensures, c.squared-4.ensures) (root-reaches c.args.least _)
