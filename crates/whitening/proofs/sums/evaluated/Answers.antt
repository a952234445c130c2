-- `whitening::sums::evaluated` meets its contract. The residuals are those of all rows (`residuals-joined`), so what `completed` makes of them is the
-- whole (`completes`). The arrays keep their room (`height-room`). Assumes nothing.
use native.Mathlib.Omega.{arith}
use Rattle.whitening.specs.Held.{chosen}
use Rattle.whitening.proofs.Joined.{residuals-joined, completes}
use Rattle.whitening.proofs.Over.{height-room}
use Rattle.whitening.proofs.sums.evaluated.Goals as goal

pub push_height-cost-requires : goal.push_height-cost-requires
push_height-cost-requires c = (c.requires.k_bound.0, omega arith, c.residuals-part.ensures.value)

pub completed-requires : goal.completed-requires
completed-requires c = record {
  k_bound = (c.requires.k_bound.0, c.residuals-part.ensures.ranges_len.1, c.requires.k_bound.1);
  slopes = c.requires.scratch.1;
}

pub returns : goal.returns
returns c =
    let P = chosen c.args.k c.args.sites.now c.args.z.now c.args.l.now c.args.altitude in
    let first = c.residuals-part.ensures in
    let pushed = c.push_height-cost.ensures.r_after in
    let last = c.completed.ensures in record {
      value = completes P c.args.p _ _ (last.value c.args.z.now)
          (residuals-joined P c.args.p _ c.requires.k_bound.1 c.args.r.now first.r_len.1 pushed c.requires.k_bound.0 c.requires.scratch.0.0);
      scratch_2 = ((height-room c.args.altitude c.args.geodetic c.args.k _ _ first.r_len.0 pushed, first.squared_len, first.ranges_len.0), last.slopes_2);
    }
