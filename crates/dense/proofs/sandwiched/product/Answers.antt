-- `dense::sandwiched::product` meets its contract. The places of the row are its own, those of the column `down` from its first,
-- and all lie in their matrix (`place`). Assumes nothing.
use native.Mathlib.Nat.{mul-one}
use native.Mathlib.Omega.{arith}
use Rattle.dense.proofs.Places.{start, place, top}
use Rattle.dense.proofs.sandwiched.product.Goals as goal

pub overflow_mul-i : goal.overflow_mul-i
overflow_mul-i c = omega (arith, start c.args.i c.args.n (omega arith))

pub dots-requires : goal.dots-requires
dots-requires c =
    let n = c.args.n in
    let i = c.args.i in
    let j = c.args.j in record {
      by_index = (λ k h. omega (arith, mul-one k, place i k n (omega arith) (omega arith)));
      by_index_2 = (λ k h. omega (arith, place k j n (omega arith) (omega arith)));
    }

pub returns : goal.returns
returns c = rw c.dots.ensures (simp (mul-one, top c.args.j c.args.n))
