-- `whitening::slopes::push_up` meets its contract. By the kinds of altitude: the promises of `up_row` and `put_slopes` (`barometric-up`, `gnss-up`).
-- Assumes nothing.
use native.Mathlib.Omega.{arith}
use Rattle.whitening.proofs.Joined.{barometric-up, gnss-up}
use Rattle.whitening.proofs.slopes.push_up.Goals as goal

pub returns-in-None : goal.returns-in-None
returns-in-None c = record {
  upper_bound = omega arith;
  d_after = λ r. rw c.in-None.is;
}

pub returns-in-Barometric : goal.returns-in-Barometric
returns-in-Barometric c =
    let at = c.args in
    let row = c.up_row-barometric.result in record {
      upper_bound = omega arith;
      d_after = barometric-up at.altitude _ at.geodetic at.k row at.a.now at.b.now at.c.now at.d.now
          (c.put_slopes.ensures.a_after, (c.put_slopes.ensures.b_after, (c.put_slopes.ensures.c_after, c.put_slopes.ensures.d_after))) c.in-Barometric.is
          c.up_row-barometric.ensures;
    }

pub returns-in-Gnss : goal.returns-in-Gnss
returns-in-Gnss c =
    let at = c.args in
    let row = c.up_row-gnss.result in record {
      upper_bound = omega arith;
      d_after = gnss-up at.altitude _ at.geodetic at.k row at.a.now at.b.now at.c.now at.d.now
          (c.put_slopes-in-Gnss.ensures.a_after, (c.put_slopes-in-Gnss.ensures.b_after, (c.put_slopes-in-Gnss.ensures.c_after, c.put_slopes-in-Gnss.ensures.d_after))) c.in-Gnss.is
          c.up_row-gnss.ensures;
    }
