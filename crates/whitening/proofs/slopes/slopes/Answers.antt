-- `whitening::slopes::slopes` meets its contract. The promises of `raw_slopes`, `forward4` and `push_up`, joined (`slopes-joined`). Assumes nothing.
use Rattle.whitening.specs.Held.{chosen}
use Rattle.whitening.proofs.Joined.{slopes-joined}
use Rattle.whitening.proofs.slopes.slopes.Goals as goal

pub raw_slopes-requires : goal.raw_slopes-requires
raw_slopes-requires c = (c.requires.0, c.requires.1)

pub returns : goal.returns
returns c =
    let at = c.args in
    let pre = c.requires in
    let last = c.push_up.ensures in record {
      upper_bound = last.upper_bound;
      d_after = λ z. slopes-joined (chosen at.k at.sites.now z at.l.now at.altitude) at.p at.geodetic pre.2 _
          at.a.now at.b.now at.c.now at.d.now
          (c.raw_slopes.ensures.a_after, (c.raw_slopes.ensures.b_after, (c.raw_slopes.ensures.c_after, c.raw_slopes.ensures.d_after)))
          (c.forward4.ensures.a_after, (c.forward4.ensures.b_after, (c.forward4.ensures.c_after, c.forward4.ensures.d_after))) last.d_after;
    }
