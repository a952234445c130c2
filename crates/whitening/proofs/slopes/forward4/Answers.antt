-- `whitening::slopes::forward4` meets its contract. The invariant: each array is solved in its rows below i, and the others hold what they brought
-- (`forward-row`). The measure is what is left of n. Assumes nothing.
use mathlib.Core.Path.{◌≡◌, refl, ◌∙◌}
use Prim.Native.Nat.{ℕ, ◌≤◌, ◌<◌, ◌+◌, ◌*◌}
use native.Mathlib.Omega.{arith}
use Rattle.dense.specs.Solve.{forward_to}
use Rattle.dense.proofs.Places.{place, room}
use Rattle.whitening.proofs.Turns.{forward-row}
use Rattle.whitening.proofs.slopes.forward4.Goals as goal

-- the diagonal entry of a turn lies in the factor
inside : (i n : ℕ) → i < n → n ≤ 32 → i * n + i < 1024
inside i n h g = omega (arith, place i i n (omega arith) (omega arith), room n (omega arith))

pub loop-i-init : goal.loop-i-init
unfolding forward_to
loop-i-init c = (omega arith, refl, refl, refl, refl)

pub overflow_mul-root : goal.overflow_mul-root
overflow_mul-root c = omega (arith, inside c.loop-i.i c.args.n (omega arith) (omega arith))

pub overflow_add-root : goal.overflow_add-root
overflow_add-root c = omega (arith, inside c.loop-i.i c.args.n (omega arith) (omega arith))

pub offset_bounds-l-i : goal.offset_bounds-l-i
offset_bounds-l-i c = omega (arith, inside c.loop-i.i c.args.n (omega arith) (omega arith))

pub bounds-l-i : goal.bounds-l-i
bounds-l-i c = omega (arith, inside c.loop-i.i c.args.n (omega arith) (omega arith))

pub loop-i-preserved : goal.loop-i-preserved
loop-i-preserved c =
    let v = c.loop-i.invariant in
    let w = c.minus_dots4-w.ensures in
    let put = c.put_slopes.ensures in (
      omega arith,
      put.a_after ∙ forward-row _ _ _ _ _ _ v.1 w.result_value,
      put.b_after ∙ forward-row _ _ _ _ _ _ v.2 w.result_value_2,
      put.c_after ∙ forward-row _ _ _ _ _ _ v.3 w.result_value_3,
      put.d_after ∙ forward-row _ _ _ _ _ _ v.4 w.result_value_4,
    )

pub returns : goal.returns
returns c =
    let v = c.loop-i.invariant in
    let all : c.loop-i.i ≡ c.args.n = omega arith in record {
      a_after = rw all at v.1;
      b_after = rw all at v.2;
      c_after = rw all at v.3;
      d_after = rw all at v.4;
    }
