-- `dense::sandwiched::sandwich` meets its contract. The half is found in the first n * n of 1024 zeros (`take-zeros`), and the
-- result from it. Assumes nothing.
use mathlib.Core.Path.{◌≡◌, sym, ap, ◌∙◌}
use Prim.Native.Nat.{ℕ, ◌*◌, ◌≤◌}
use native.Mathlib.Omega.{arith}
use lib.ListN.{length, take, replicate, length-append, length-replicate}
use lib.Seq.{take_at}
use Rattle.binary64.specs.Steps.{nought}
use Rattle.dense.specs.Triangular.{blank}
use Rattle.dense.proofs.Places.{room}
use Rattle.dense.proofs.Units.{take-zeros}
use Rattle.dense.proofs.sandwiched.sandwich.Goals as goal

-- what is lent to `product_all`
lent : (n : ℕ) → n ≤ 32 → take (n * n) (replicate 1024 nought) ≡ blank n
lent n h = take-zeros (n * n) 1024 (room n h)

lent_length : (n : ℕ) → n ≤ 32 → length (take (n * n) (replicate 1024 nought)) ≡ n * n
lent_length n h = ap length (lent n h) ∙ length-replicate (n * n) nought

pub overflow_mul-size : goal.overflow_mul-size
overflow_mul-size c = omega (arith, room c.args.n (omega arith))

pub slice_bounds-half-end : goal.slice_bounds-half-end
slice_bounds-half-end c = omega (arith, room c.args.n (omega arith))

pub slice_bounds-product_all-end : goal.slice_bounds-product_all-end
slice_bounds-product_all-end c = sym (lent_length c.args.n (omega arith))

pub product_all-requires : goal.product_all-requires
product_all-requires c = omega (arith, lent_length c.args.n (omega arith))

pub slice_bounds-half-end-2 : goal.slice_bounds-half-end-2
slice_bounds-half-end-2 c =
    let left = c.product_all.auto.m ∙ lent_length c.args.n (omega arith) in
    simp length-append (omega (arith, left, room c.args.n (omega arith)))

pub slice_bounds-mirrored-end : goal.slice_bounds-mirrored-end
slice_bounds-mirrored-end c =
    let left = c.product_all.auto.m ∙ lent_length c.args.n (omega arith) in
    rw (take_at _ _ _ left) (sym left)

pub mirrored-requires : goal.mirrored-requires
mirrored-requires c =
    let left = c.product_all.auto.m ∙ lent_length c.args.n (omega arith) in
    rw (take_at _ _ _ left) (omega (arith, left))

pub returns : goal.returns
returns c =
    let left = c.product_all.auto.m ∙ lent_length c.args.n (omega arith) in
    rw (c.mirrored.ensures, take_at _ _ _ left, c.product_all.ensures, lent c.args.n (omega arith))
