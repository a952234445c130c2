-- `dense::backward` meets its contract. The invariant: x holds the solution in its last m rows of n and y in the others
-- (`backward-keeps`), and keeps its length. The measure is what is left of n. Assumes nothing.
use mathlib.Core.Path.{◌≡◌, refl, sym}
use Prim.Native.Nat.{suc, ◌+◌, ◌-◌}
use native.Mathlib.Nat.{mul-one}
use native.Mathlib.Numerals.{add-one}
use native.Mathlib.Omega.{arith}
use lib.ListN.{length-set}
use Rattle.dense.specs.Entries.{nth}
use Rattle.dense.specs.Solve.{backward_to}
use Rattle.dense.proofs.Places.{start, place, down}
use Rattle.dense.proofs.Keeps.{backward-keeps}
use Rattle.dense.proofs.backward.Goals as goal

pub loop-m-init : goal.loop-m-init
unfolding backward_to
loop-m-init c = (omega arith, refl, refl)

pub overflow_mul-i : goal.overflow_mul-i
overflow_mul-i c =
    let n = c.args.n in
    omega (arith, start (n - 1 - c.loop-m.m + 1) n (omega arith))

pub overflow_add-i-in-loop-m : goal.overflow_add-i-in-loop-m
overflow_add-i-in-loop-m c =
    let n = c.args.n in
    omega (arith, start (n - 1 - c.loop-m.m + 1) n (omega arith))

pub minus_dots-value-requires : goal.minus_dots-value-requires
minus_dots-value-requires c =
    let n = c.args.n in
    let i = n - 1 - c.loop-m.m in record {
      by_index = (λ k h. omega (arith, place (i + 1 + k) i n (omega arith) (omega arith), down (i + 1) i n k));
      by_index_2 = (λ k h. omega arith);
    }

pub loop-m-preserved : goal.loop-m-preserved
unfolding backward_to
loop-m-preserved c =
    let loop = c.loop-m in
    let y = c.args.x.now in
    let n = c.args.n in
    let i = n - 1 - loop.m in
    let row : n - suc loop.m ≡ i = omega arith in
    let kept : nth y i ≡ nth loop.x i = rw loop.invariant.2 (sym (backward-keeps _ n y loop.m i (omega arith) (omega arith))) in (
      omega arith,
      simp length-set loop.invariant.1,
      rw (add-one loop.m, row, ← loop.invariant.2, c.at.ensures, c.minus_dots-value.ensures, kept) (simp (mul-one, down (i + 1) i n)),
    )

pub shape_of-x : goal.shape_of-x
shape_of-x c = c.loop-m.invariant.1

pub returns : goal.returns
returns c =
    let loop = c.loop-m in
    let all : loop.m ≡ c.args.n = omega arith in
    rw all at loop.invariant.2
