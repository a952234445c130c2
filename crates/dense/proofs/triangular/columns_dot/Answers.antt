-- `dense::triangular::columns_dot` meets its contract. The places of both columns are `down` from the diagonal, and lie in the
-- matrix (`place`). Assumes nothing.
use Prim.Native.Nat.{◌+◌}
use native.Mathlib.Omega.{arith}
use Rattle.dense.proofs.Places.{start, place, down}
use Rattle.dense.proofs.triangular.columns_dot.Goals as goal

pub overflow_mul-i : goal.overflow_mul-i
overflow_mul-i c = omega (arith, start c.args.i c.args.n (omega arith))

pub overflow_add-i : goal.overflow_add-i
overflow_add-i c = omega (arith, place c.args.i c.args.i c.args.n (omega arith) (omega arith))

pub overflow_mul-i-2 : goal.overflow_mul-i-2
overflow_mul-i-2 c = omega (arith, start c.args.i c.args.n (omega arith))

pub overflow_add-i-2 : goal.overflow_add-i-2
overflow_add-i-2 c = omega (arith, place c.args.i c.args.j c.args.n (omega arith) (omega arith))

pub dots-requires : goal.dots-requires
dots-requires c =
    let n = c.args.n in
    let i = c.args.i in
    let j = c.args.j in record {
      by_index = (λ k h. omega (arith, down i i n k, place (i + k) i n (omega arith) (omega arith)));
      by_index_2 = (λ k h. omega (arith, down i j n k, place (i + k) j n (omega arith) (omega arith)));
    }

pub returns : goal.returns
returns c =
    let args = c.args in
    rw c.dots.ensures (simp (down args.i args.i args.n, down args.i args.j args.n))
