-- `dense::cholesky` meets its contract. The invariant: l holds the factor's columns below j, none of them refused, and keeps its length. What a pivot
-- does to it is `next` and `stopped`. The measure is what is left of n. Assumes nothing.
use mathlib.Core.Path.{◌≡◌, refl, sym}
use native.Mathlib.Nat.{mul-one}
use native.Mathlib.Numerals.{add-one}
use native.Mathlib.Omega.{arith}
use Rattle.dense.specs.Factor.{pivot, cholesky_to}
use Rattle.dense.proofs.Places.{start, place}
use Rattle.dense.proofs.Columns.{next, stopped}
use Rattle.dense.proofs.cholesky.Goals as goal

pub loop-j-init : goal.loop-j-init
unfolding cholesky_to
loop-j-init c = (omega arith, refl, refl)

pub overflow_mul-j : goal.overflow_mul-j
overflow_mul-j c = omega (arith, start c.loop-j.j c.args.n (omega arith))

pub overflow_mul-j-in-loop-j : goal.overflow_mul-j-in-loop-j
overflow_mul-j-in-loop-j c = omega (arith, start c.loop-j.j c.args.n (omega arith))

pub minus_dots-diagonal-requires : goal.minus_dots-diagonal-requires
minus_dots-diagonal-requires c =
    let n = c.args.n in
    let j = c.loop-j.j in record {
      by_index = (λ k h. omega (arith, place j k n (omega arith) (omega arith), mul-one k));
      by_index_2 = (λ k h. omega (arith, place j k n (omega arith) (omega arith)));
    }

pub shape_of-l-else-diagonal : goal.shape_of-l-else-diagonal
shape_of-l-else-diagonal c = c.loop-j.invariant.1

pub returns-else-diagonal : goal.returns-else-diagonal
returns-else-diagonal c =
    let args = c.args in
    let pivot_is : c.minus_dots-diagonal.result ≡ pivot args.a.now args.n c.loop-j.j c.loop-j.l =
    rw (c.minus_dots-diagonal.ensures, c.at.ensures) (simp mul-one) in
    let below = rw pivot_is at c.if-diagonal.false in
    sym (stopped _ _ _ _ _ _ (omega arith) c.loop-j.invariant.2 below)

pub loop-j-preserved : goal.loop-j-preserved
loop-j-preserved c =
    let args = c.args in
    let pivot_is : c.minus_dots-diagonal.result ≡ pivot args.a.now args.n c.loop-j.j c.loop-j.l =
    rw (c.minus_dots-diagonal.ensures, c.at.ensures) (simp mul-one) in
    let above = rw pivot_is at c.if-diagonal.true in
    let more = next _ _ _ _ _ c.loop-j.invariant.2 above in (
      omega arith,
      omega arith,
      rw (
        add-one,
        more,
        c.column.ensures,
        c.put.ensures,
        c.sqrt-root.ensures,
        pivot_is,
      ),
    )

pub shape_of-l : goal.shape_of-l
shape_of-l c = c.loop-j.invariant.1

pub returns : goal.returns
returns c =
    let loop = c.loop-j in
    let all : loop.j ≡ c.args.n = omega arith in
    rw all at (sym loop.invariant.2)
