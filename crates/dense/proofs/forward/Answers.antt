-- `dense::forward` meets its contract. The invariant: y holds the solution in its rows below i and b in the others (`forward-keeps`), and keeps its
-- length. The measure is what is left of n. Assumes nothing.
use mathlib.Core.Path.{◌≡◌, refl, sym}
use native.Mathlib.Nat.{mul-one, zero-add}
use native.Mathlib.Numerals.{add-one}
use native.Mathlib.Omega.{arith}
use lib.ListN.{length-set}
use Rattle.dense.specs.Entries.{nth}
use Rattle.dense.specs.Solve.{forward_to}
use Rattle.dense.proofs.Places.{start, place}
use Rattle.dense.proofs.Keeps.{forward-keeps}
use Rattle.dense.proofs.forward.Goals as goal

pub loop-i-init : goal.loop-i-init
unfolding forward_to
loop-i-init c = (omega arith, refl, refl)

pub overflow_mul-i : goal.overflow_mul-i
overflow_mul-i c = omega (arith, start c.loop-i.i c.args.n (omega arith))

pub minus_dots-value-requires : goal.minus_dots-value-requires
minus_dots-value-requires c =
    let n = c.args.n in
    let i = c.loop-i.i in record {
      by_index = (λ k h. omega (arith, place i k n (omega arith) (omega arith), mul-one k));
      by_index_2 = (λ k h. omega arith);
    }

pub loop-i-preserved : goal.loop-i-preserved
unfolding forward_to
loop-i-preserved c =
    let loop = c.loop-i in
    let b = c.args.y.now in
    let kept : nth b loop.i ≡ nth loop.y loop.i = rw loop.invariant.2 (sym (forward-keeps _ _ b loop.i loop.i (omega arith))) in (
      omega arith,
      simp length-set loop.invariant.1,
      rw (add-one, ← loop.invariant.2, c.at.ensures, c.minus_dots-value.ensures, kept) (simp (mul-one, zero-add)),
    )

pub shape_of-y : goal.shape_of-y
shape_of-y c = c.loop-i.invariant.1

pub returns : goal.returns
returns c =
    let loop = c.loop-i in
    let all : loop.i ≡ c.args.n = omega arith in
    rw all at loop.invariant.2
