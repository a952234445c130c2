-- `whitening::rows::whitened` meets its contract. The residuals and then the slopes, joined (`residuals-over`, `whitened-joined`). Assumes
-- nothing.
use mathlib.Core.Path.{refl, ap}
use native.Mathlib.Omega.{arith}
use lib.ListN.{length}
use Rattle.whitening.specs.Held.{chosen}
use Rattle.whitening.proofs.Joined.{residuals-over, whitened-joined}
use Rattle.whitening.proofs.rows.whitened.Goals as goal

pub residuals-part-requires : goal.residuals-part-requires
residuals-part-requires c = (c.requires.k_bound.0, ap length c.requires.r_value.0, refl, refl)

pub push_height-cost-requires : goal.push_height-cost-requires
push_height-cost-requires c = (c.requires.k_bound.0, omega arith, c.residuals-part.ensures.value)

pub slopes-requires : goal.slopes-requires
slopes-requires c = (c.requires.k_bound.0, c.residuals-part.ensures.ranges_len.1, c.requires.k_bound.1)

pub returns : goal.returns
returns c =
    let P = chosen c.args.k c.args.sites.now c.args.z.now c.args.l.now c.args.altitude in
    let first = residuals-over P c.args.p _ c.requires.k_bound.1 c.args.r.now
    c.residuals-part.ensures.r_len.1
    c.push_height-cost.ensures.r_after in
    let last = c.slopes.ensures in record {
      upper_bound = last.upper_bound;
      d_after = whitened-joined P c.args.p _ c.requires.r_value first (last.d_after c.args.z.now _);
    }
