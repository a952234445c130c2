-- `dense::mul_vec` meets its contract. The invariant: y holds the product in its rows below `row`, and keeps its length. The
-- measure is what is left of n. Assumes nothing.
use mathlib.Core.Path.{◌≡◌, refl}
use native.Mathlib.Nat.{mul-one, zero-add}
use native.Mathlib.Numerals.{add-one}
use native.Mathlib.Omega.{arith}
use lib.ListN.{length-set}
use Rattle.dense.specs.Entries.{mul_vec_to}
use Rattle.dense.proofs.Places.{start, place}
use Rattle.dense.proofs.mul_vec.Goals as goal

pub loop-row-init : goal.loop-row-init
unfolding mul_vec_to
loop-row-init c = (omega arith, refl, refl)

pub overflow_mul-row : goal.overflow_mul-row
overflow_mul-row c = omega (arith, start c.loop-row.row c.args.n (omega arith))

pub dots-requires : goal.dots-requires
dots-requires c =
    let n = c.args.n in record {
      by_index = (λ k h. omega (arith, place c.loop-row.row k n (omega arith) h));
      by_index_2 = omega arith;
    }

pub loop-row-preserved : goal.loop-row-preserved
unfolding mul_vec_to
loop-row-preserved c =
    let loop = c.loop-row in
    (omega arith, simp length-set loop.invariant.1, rw (add-one loop.row, ← loop.invariant.2, c.dots.ensures) (simp (mul-one, zero-add)))

pub shape_of-y : goal.shape_of-y
shape_of-y c = c.loop-row.invariant.1

pub returns : goal.returns
returns c =
    let loop = c.loop-row in
    let all : loop.row ≡ c.args.n = omega arith in
    rw all at loop.invariant.2
