-- `whitening::slopes::raw_slopes` meets its contract. The invariant: each array is filled below i. The range of a turn is the one lent. The
-- measure is what is left of k. Assumes nothing.
use mathlib.Core.Path.{◌≡◌, refl}
use native.Mathlib.Numerals.{add-one}
use native.Mathlib.Omega.{arith}
use Rattle.whitening.specs.Whitened.{fill_to}
use Rattle.whitening.proofs.slopes.raw_slopes.Goals as goal

pub loop-i-init : goal.loop-i-init
unfolding fill_to
loop-i-init c = (omega arith, refl, refl, refl, refl)

pub slope_row-row-requires : goal.slope_row-row-requires
slope_row-row-requires c = (omega arith, c.requires.1 c.loop-i.i (omega arith))

pub loop-i-preserved : goal.loop-i-preserved
unfolding fill_to
loop-i-preserved c =
    let v = c.loop-i.invariant in
    let row = c.slope_row-row.ensures in
    let put = c.put_slopes.ensures in (
      omega arith,
      rw (add-one, ← v.1, put.a_after, row),
      rw (add-one, ← v.2, put.b_after, row),
      rw (add-one, ← v.3, put.c_after, row),
      rw (add-one, ← v.4, put.d_after, row),
    )

pub returns : goal.returns
returns c =
    let v = c.loop-i.invariant in
    let all : c.loop-i.i ≡ c.args.k = omega arith in record {
      a_after = rw all at v.1;
      b_after = rw all at v.2;
      c_after = rw all at v.3;
      d_after = rw all at v.4;
    }
