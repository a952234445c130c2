-- `dense::put` meets its contract. The one fact behind its needs is `place`, that the entry lies in the matrix. Assumes nothing.
use native.Mathlib.Omega.{arith}
use Prim.Native.Nat.{◌+◌, ◌*◌, ◌<◌}
use lib.ListN.{length}
use Rattle.dense.proofs.Places.{place}
use Rattle.dense.proofs.put.Goals as goal

inside : (c : goal.Start) → c.args.row * c.args.n + c.args.column < length c.args.m.now
inside c = omega (arith, place c.args.row c.args.column c.args.n c.requires.0 c.requires.1)

pub overflow_mul-m : goal.overflow_mul-m
overflow_mul-m c = omega (arith, inside c)

pub overflow_add-m : goal.overflow_add-m
overflow_add-m c = omega (arith, inside c)

pub offset_bounds-m-row : goal.offset_bounds-m-row
offset_bounds-m-row c = omega (arith, inside c)

pub bounds-m-row : goal.bounds-m-row
bounds-m-row c = omega (arith, inside c)
