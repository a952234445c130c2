-- `dense::rows::over` meets its contract. The invariant: the row's first j entries are divided, and r keeps its length. That an
-- entry lies in r is `place_in`. The measure is what is left of the width. Assumes nothing.
use mathlib.Core.Path.{◌≡◌, refl}
use Prim.Native.Nat.{◌<◌, ◌+◌, ◌*◌}
use native.Mathlib.Numerals.{add-one}
use native.Mathlib.Omega.{arith}
use lib.ListN.{length-set}
use Rattle.dense.specs.Rows.{over_to}
use Rattle.dense.proofs.Places.{place_in}
use Rattle.dense.proofs.rows.over.Goals as goal

-- entry j lies before the end of row i
inside
    : (c : goal.In-loop-j) →
    let args = c.args in
    args.i * args.width + c.loop-j.j < (args.i + 1) * args.width
inside c =
    let args = c.args in
    place_in args.i c.loop-j.j (args.i + 1) args.width (omega arith) (omega arith)

pub loop-j-init : goal.loop-j-init
unfolding over_to
loop-j-init c = (omega arith, refl, refl)

pub overflow_mul-r : goal.overflow_mul-r
overflow_mul-r c = omega (arith, inside c)

pub overflow_add-r : goal.overflow_add-r
overflow_add-r c = omega (arith, inside c)

pub offset_bounds-r-i : goal.offset_bounds-r-i
offset_bounds-r-i c = omega (arith, inside c)

pub bounds-r-i : goal.bounds-r-i
bounds-r-i c = omega (arith, inside c.before)

pub overflow_mul-r-in-loop-j : goal.overflow_mul-r-in-loop-j
overflow_mul-r-in-loop-j c = omega (arith, inside c.before)

pub overflow_add-r-in-loop-j : goal.overflow_add-r-in-loop-j
overflow_add-r-in-loop-j c = omega (arith, inside c.before)

pub offset_bounds-r-i-in-loop-j : goal.offset_bounds-r-i-in-loop-j
offset_bounds-r-i-in-loop-j c = omega (arith, inside c.before)

pub bounds-r-i-in-loop-j : goal.bounds-r-i-in-loop-j
bounds-r-i-in-loop-j c = omega (arith, inside c.before)

pub loop-j-preserved : goal.loop-j-preserved
unfolding over_to
loop-j-preserved c =
    let loop = c.loop-j in
    (omega arith, simp length-set loop.invariant.1, rw (add-one loop.j, ← loop.invariant.2))

pub shape_of-r : goal.shape_of-r
shape_of-r c = c.loop-j.invariant.1

pub returns : goal.returns
returns c =
    let loop = c.loop-j in
    let all : loop.j ≡ c.args.width = omega arith in
    rw all at loop.invariant.2
