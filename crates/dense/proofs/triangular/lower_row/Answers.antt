-- `dense::triangular::lower_row` meets its contract. The invariant: inv holds the row's first j entries, and keeps its length.
-- The factor's entries lie `along` its row, those of inv `down` its column. The measure is what is left of i. Assumes nothing.
use mathlib.Core.Path.{◌≡◌, refl}
use Prim.Native.Nat.{◌+◌}
use native.Mathlib.Numerals.{add-one}
use native.Mathlib.Omega.{arith}
use Rattle.dense.specs.Triangular.{lower_row_to}
use Rattle.dense.proofs.Places.{place, along, down}
use Rattle.dense.proofs.triangular.lower_row.Goals as goal

pub loop-j-init : goal.loop-j-init
unfolding lower_row_to
loop-j-init c = (omega arith, refl, refl)

pub minus_dots-value-requires : goal.minus_dots-value-requires
minus_dots-value-requires c =
    let n = c.args.n in
    let i = c.args.i in
    let j = c.loop-j.j in record {
      by_index = (λ k h. omega (arith, along i j n k, place i (j + k) n (omega arith) (omega arith)));
      by_index_2 = (λ k h. omega (arith, down j j n k, place (j + k) j n (omega arith) (omega arith)));
    }

pub loop-j-preserved : goal.loop-j-preserved
unfolding lower_row_to
loop-j-preserved c =
    let loop = c.loop-j in
    let n = c.args.n in
    let i = c.args.i in (
      omega arith,
      omega arith,
      rw (add-one loop.j, ← loop.invariant.2, c.put.ensures, c.at.ensures, c.minus_dots-value.ensures)
          (simp (along i loop.j n, down loop.j loop.j n)),
    )

pub shape_of-inv : goal.shape_of-inv
shape_of-inv c = c.loop-j.invariant.1

pub returns : goal.returns
returns c =
    let loop = c.loop-j in
    let all : loop.j ≡ c.args.i = omega arith in
    rw all at loop.invariant.2
