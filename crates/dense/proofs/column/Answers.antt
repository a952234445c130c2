-- `dense::column` meets its contract. The invariant: l holds the column's rows from j + 1 to below i, and keeps its length. The measure is what is
-- left of n. Assumes nothing.
use mathlib.Core.Path.{◌≡◌, refl}
use Prim.Native.Nat.{suc, ◌+◌, ◌-◌}
use native.Mathlib.Nat.{mul-one, sub_self, add-sub_of_le}
use native.Mathlib.Omega.{arith}
use Rattle.dense.specs.Factor.{column_to}
use Rattle.dense.proofs.Places.{start, place}
use Rattle.dense.proofs.column.Goals as goal

pub loop-i-init : goal.loop-i-init
unfolding column_to
loop-i-init c = (omega arith, omega arith, refl, rw sub_self)

pub overflow_mul-i : goal.overflow_mul-i
overflow_mul-i c = omega (arith, start c.loop-i.i c.args.n (omega arith))

pub overflow_mul-j : goal.overflow_mul-j
overflow_mul-j c = omega (
  arith,
  start c.args.j
      c.args.n (omega arith),
)

pub minus_dots-value-requires : goal.minus_dots-value-requires
minus_dots-value-requires c =
    let n = c.args.n in record {
      by_index = (λ k h. omega (arith, place c.loop-i.i k n (omega arith) (omega arith), mul-one k));
      by_index_2 = (λ k h. omega (arith, place c.args.j k n (omega arith) (omega arith)));
    }

pub loop-i-preserved : goal.loop-i-preserved
unfolding column_to
loop-i-preserved c =
    let loop = c.loop-i in
    let j = c.args.j in
    let next : loop.i + 1 - (j + 1) ≡ suc (loop.i - (j + 1)) = omega arith in (
      omega arith,
      omega arith,
      omega arith,
      rw (
        next,
        add-sub_of_le loop.invariant.0,
        ← loop.invariant.3,
        c.put.ensures,
        c.minus_dots-value.ensures,
        c.at.ensures,
      ) (simp mul-one),
    )

pub shape_of-l : goal.shape_of-l
shape_of-l c = c.loop-i.invariant.2

pub returns : goal.returns
returns c =
    let loop = c.loop-i in
    let all : loop.i ≡ c.args.n = omega arith in
    rw all at loop.invariant.3
