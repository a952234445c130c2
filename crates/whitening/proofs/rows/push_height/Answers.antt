-- `whitening::rows::push_height` meets its contract. By the kinds of altitude (`barometric`, `gnss`). Assumes nothing.
use Rattle.whitening.proofs.Joined.{barometric, gnss}
use Rattle.whitening.proofs.rows.push_height.Goals as goal

pub returns-in-None : goal.returns-in-None
returns-in-None c = record {
  r_after = rw c.in-None.is;
  value = rw c.in-None.is c.requires.2;
}

pub returns-in-Barometric : goal.returns-in-Barometric
returns-in-Barometric c =
    let at = c.args in
    let put = c.put_residual.ensures in
    let h = barometric at.altitude _ at.geodetic at.k at.r.now _ c.in-Barometric.is put.r_after in record {
      r_after = h.0;
      value = rw h.1 at put.value;
    }

pub returns-in-Gnss : goal.returns-in-Gnss
returns-in-Gnss c =
    let at = c.args in
    let put = c.put_residual-in-Gnss.ensures in
    let h = gnss at.altitude _ at.geodetic at.k at.r.now _ c.in-Gnss.is put.r_after in record {
      r_after = h.0;
      value = rw h.1 at put.value;
    }
