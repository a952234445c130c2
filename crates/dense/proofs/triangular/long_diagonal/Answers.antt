-- `dense::triangular::long_diagonal` meets its contract. L⁻¹ is found in the first n * n of 1024 zeros (`take-zeros`).
-- Assumes nothing.
use mathlib.Core.Path.{◌≡◌, sym, ap, ◌∙◌}
use Prim.Native.Nat.{ℕ, ◌*◌, ◌≤◌}
use native.Mathlib.Omega.{arith}
use lib.ListN.{length, take, replicate, length-replicate}
use Rattle.binary64.specs.Steps.{nought}
use Rattle.dense.specs.Triangular.{blank}
use Rattle.dense.proofs.Places.{room}
use Rattle.dense.proofs.Units.{take-zeros}
use Rattle.dense.proofs.triangular.long_diagonal.Goals as goal

-- what is lent
lent : (n : ℕ) → n ≤ 32 → take (n * n) (replicate 1024 nought) ≡ blank n
lent n h = take-zeros (n * n) 1024 (room n h)

lent_length : (n : ℕ) → n ≤ 32 → length (take (n * n) (replicate 1024 nought)) ≡ n * n
lent_length n h = ap length (lent n h) ∙ length-replicate (n * n) nought

pub overflow_mul-size : goal.overflow_mul-size
overflow_mul-size c = omega (arith, room c.args.n (omega arith))

pub slice_bounds-inv-end : goal.slice_bounds-inv-end
slice_bounds-inv-end c = omega (arith, room c.args.n (omega arith))

pub slice_bounds-diagonal_in-end : goal.slice_bounds-diagonal_in-end
slice_bounds-diagonal_in-end c = sym (lent_length c.args.n (omega arith))

pub diagonal_in-requires : goal.diagonal_in-requires
diagonal_in-requires c = omega (arith, lent_length c.args.n (omega arith))

pub returns : goal.returns
returns c = rw (c.diagonal_in.ensures, lent c.args.n (omega arith))
