-- `whitening::rows::residuals` meets its contract. The promises of `raw_residuals`, `forward` and `squares`, put together. The arrays
-- keep their room (`room-left`, `fill-length`). Assumes nothing.
use mathlib.Core.Path.{ap, ◌∙◌}
use mathlib.Core.List.{List}
use native.Mathlib.Omega.{arith}
use lib.ListN.{length}
use lib.Ieee.{Float}
use Rattle.dense.specs.Entries.{nth}
use Rattle.dense.specs.Solve.{forward}
use Rattle.dense.proofs.Places.{room}
use Rattle.whitening.specs.Whitened.{range_at, raw}
use Rattle.whitening.proofs.Costs.{fill-length, fill-at, room-left}
use Rattle.whitening.proofs.rows.residuals.Goals as goal

pub raw_residuals-requires : goal.raw_residuals-requires
raw_residuals-requires c = (c.requires.0, c.requires.2, c.requires.3)

pub forward-requires : goal.forward-requires
forward-requires c = (
  omega (arith, room c.args.k (omega arith)),
  omega arith,
)

pub returns : goal.returns
returns c =
    let at = c.args in
    let pre = c.requires in
    let raws = c.raw_residuals.ensures in
    let l = at.l.now in
    let f = raw at.sites.now at.z.now at.p 0 in
    let far = range_at at.sites.now at.p in
    let solved = c.forward.ensures ∙ ap (λ (y : List Float). forward l at.k y) raws.r_after in record {
      r_len = (ap length solved ∙ room-left l f at.r.now at.k at.k ∙ pre.1, solved);
      squared_len = raws.squared_len;
      ranges_len = (
        ap length raws.ranges_after ∙ fill-length far at.ranges.now at.k ∙ pre.3,
        λ i h. ap (λ (y : List Float). nth y i) raws.ranges_after ∙ fill-at far at.ranges.now at.k i (omega (arith, pre.3)) h,
      );
      value = c.squares.ensures;
    }
