-- `near::nearest_to` meets its contract. A place that is not refused has a record of 176 bytes (`sized`),
-- and a step is one of the choice (`next-held`). Assumes nothing.
use Rattle.std.proofs.Common.{ℕ, List, length, ap, ◌∙◌, ap₂}
use Rattle.near.specs.declared.Held.{Held}
use Rattle.near.specs.Near.{is_fix, distance, step}
use Rattle.near.proofs.Records.{sized}
use Rattle.near.proofs.Steps.{next-held}
use Rattle.near.proofs.nearest_to.Goals as goal

pub step-requires : goal.step-requires
step-requires c = ap length c.record_at.ensures ∙ sized _ _ c.requires.0

pub returns : goal.returns
returns c =
    let args = c.args in
    c.step.ensures
    ∙ ap₂ (λ (s : List ℕ) (h : Held). step (is_fix s) args.k (distance args.point s) h) c.record_at.ensures c.requires.1
    ∙ next-held args.file.now args.point args.k
