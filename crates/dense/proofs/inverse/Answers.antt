-- `dense::inverse` meets its contract. The invariant: m holds the solutions of the unit vectors below `column` in its columns, and keeps its length.
-- Each is solved in the first n of 32 entries (`unit-part`). The measure is what is left of n. Assumes nothing.
use mathlib.Core.Path.{◌≡◌, refl, sym, ap, ◌∙◌}
use Prim.Native.Nat.{ℕ, ◌≤◌, ◌<◌}
use native.Mathlib.Numerals.{add-one}
use native.Mathlib.Omega.{arith}
use lib.ListN.{length, take, set, replicate, length-append}
use lib.Seq.{take_at}
use Rattle.binary64.specs.Steps.{nought, one}
use Rattle.dense.specs.Inverse.{columns_to}
use Rattle.dense.proofs.Units.{unit, unit-part, unit-length}
use Rattle.dense.proofs.inverse.Goals as goal

-- what is lent to `solve`
lent : (n column : ℕ) → column < n → n ≤ 32 → take n (set (replicate 32 nought) column one) ≡ unit n column
lent n column h g = unit-part n column 32 h g

lent_length : (n column : ℕ) → column < n → n ≤ 32 → length (take n (set (replicate 32 nought) column one)) ≡ n
lent_length n column h g = ap length (lent n column h g) ∙ unit-length n column

pub loop-column-init : goal.loop-column-init
unfolding columns_to
loop-column-init c = (omega arith, refl, refl)

pub slice_bounds-solve-end : goal.slice_bounds-solve-end
slice_bounds-solve-end c = sym (lent_length c.args.n c.loop-column.column (omega arith) (omega arith))

pub solve-requires : goal.solve-requires
solve-requires c = omega (arith, lent_length c.args.n c.loop-column.column (omega arith) (omega arith))

pub slice_bounds-x-end-in-loop-column : goal.slice_bounds-x-end-in-loop-column
slice_bounds-x-end-in-loop-column c =
    let left = c.solve.auto.x ∙ lent_length c.args.n c.loop-column.column (omega arith) (omega arith) in
    simp length-append (omega (arith, left))

pub slice_bounds-put_column-end : goal.slice_bounds-put_column-end
slice_bounds-put_column-end c =
    let left = c.solve.auto.x ∙ lent_length c.args.n c.loop-column.column (omega arith) (omega arith) in
    rw (take_at _ _ _ left) (sym left)

pub put_column-requires : goal.put_column-requires
put_column-requires c =
    let left = c.solve.auto.x ∙ lent_length c.args.n c.loop-column.column (omega arith) (omega arith) in
    rw (take_at _ _ _ left) (omega arith, omega arith, omega (arith, left))

pub loop-column-preserved : goal.loop-column-preserved
unfolding columns_to
loop-column-preserved c =
    let loop = c.loop-column in
    let left = c.solve.auto.x ∙ lent_length c.args.n c.loop-column.column (omega arith) (omega arith) in (
      omega arith,
      omega arith,
      rw (
        add-one loop.column,
        ← loop.invariant.2,
        c.put_column.ensures,
        take_at _ _ _ left,
        c.solve.ensures,
        lent c.args.n loop.column (omega arith) (omega arith),
      ),
    )

pub returns : goal.returns
returns c =
    let loop = c.loop-column in
    let all : loop.column ≡ c.args.n = omega arith in
    rw (c.symmetrise.ensures, loop.invariant.2, all)
