-- `near::near_at` meets its contract. A place that is not refused has a record of 176 bytes (`sized`). Assumes nothing.
use Rattle.std.proofs.Common.{length, ap, ◌∙◌}
use Rattle.near.specs.Near.{is_near}
use Rattle.near.proofs.Records.{sized}
use Rattle.near.proofs.near_at.Goals as goal

pub is_near-requires : goal.is_near-requires
is_near-requires c = ap length c.record_at.ensures ∙ sized _ _ c.requires

pub returns : goal.returns
returns c =
    c.is_near.ensures ∙ ap (is_near c.args.point c.args.radius) c.record_at.ensures
