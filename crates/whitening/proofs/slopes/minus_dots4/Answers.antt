-- `whitening::slopes::minus_dots4` meets its contract. The invariant: each sum has its first k products taken off. The measure is what is left of i.
-- Assumes nothing.
use mathlib.Core.Path.{◌≡◌, refl}
use Prim.Native.Nat.{ℕ, ◌≤◌, ◌<◌, ◌+◌, ◌*◌}
use native.Mathlib.Numerals.{add-one}
use native.Mathlib.Omega.{arith}
use Rattle.dense.specs.Entries.{minus_dots}
use Rattle.dense.proofs.Places.{place, room}
use Rattle.whitening.proofs.slopes.minus_dots4.Goals as goal

-- the entry of a turn lies in the factor
inside : (i k n : ℕ) → i < n → k < n → n ≤ 32 → i * n + k < 1024
inside i k n h g l = omega (arith, place i k n (omega arith) (omega arith), room n (omega arith))

pub overflow_mul-start : goal.overflow_mul-start
overflow_mul-start c = omega (arith, place c.args.i c.args.i c.args.n (omega arith) (omega arith), room c.args.n (omega arith))

pub loop-k-init : goal.loop-k-init
unfolding minus_dots
loop-k-init c = (omega arith, refl, refl, refl, refl)

pub overflow_add-e : goal.overflow_add-e
overflow_add-e c = omega (arith, inside c.args.i c.loop-k.k c.args.n (omega arith) (omega arith) (omega arith))

pub offset_bounds-l-start : goal.offset_bounds-l-start
offset_bounds-l-start c = omega (arith, inside c.args.i c.loop-k.k c.args.n (omega arith) (omega arith) (omega arith))

pub bounds-l-start : goal.bounds-l-start
bounds-l-start c = omega (arith, inside c.args.i c.loop-k.k c.args.n (omega arith) (omega arith) (omega arith))

pub loop-k-preserved : goal.loop-k-preserved
unfolding minus_dots
loop-k-preserved c =
    let v = c.loop-k.invariant in
    (omega arith, rw (add-one, v.1), rw (add-one, v.2), rw (add-one, v.3), rw (add-one, v.4))

pub returns : goal.returns
returns c =
    let v = c.loop-k.invariant in
    let all : c.loop-k.k ≡ c.args.i = omega arith in record {
      result_value = rw all at v.1;
      result_value_2 = rw all at v.2;
      result_value_3 = rw all at v.3;
      result_value_4 = rw all at v.4;
    }
