-- `matrices::copy` meets its contract. The invariant: the first k entries are q's, and out keeps its length. The measure is what
-- is left of q. Assumes nothing.
use mathlib.Core.Path.{refl}
use native.Mathlib.Numerals.{add-one}
use native.Mathlib.Omega.{arith}
use lib.ListN.{length-set}
use Rattle.matrices.proofs.Copies.{copied, whole}
use Rattle.matrices.proofs.copy.Goals as goal

pub loop-k-init : goal.loop-k-init
loop-k-init c = (omega arith, refl, refl)

pub loop-k-preserved : goal.loop-k-preserved
loop-k-preserved c =
    let loop = c.loop-k in
    let q = c.args.q.now in (
      omega arith,
      simp length-set loop.invariant.1,
      rw (add-one loop.k) (copied q loop.out loop.k (omega arith) (omega arith) loop.invariant.2),
    )

pub shape_of-out : goal.shape_of-out
shape_of-out c = c.loop-k.invariant.1

pub returns : goal.returns
returns c = whole c.args.q.now c.loop-k.out c.loop-k.k (omega arith) (omega arith) c.loop-k.invariant.2
