-- `near::check_nearest` meets its contract: the point is tested, and then the file is looked at before that test counts. Assumes nothing.
use Rattle.std.proofs.Common.{ap, ◌∙◌}
use Rattle.near.specs.Near.{query_refusal, nearest_answer}
use Rattle.near.proofs.check_nearest.Goals as goal

pub returns : goal.returns
unfolding nearest_answer
returns c =
    let file = c.args.file.now in
    c.check_query.ensures ∙ ap (query_refusal file) c.good_point.ensures
