-- `entry::answered` meets its contract: by the cases of the answer (`Replies`). Assumes nothing.
use mathlib.Core.Path.{sym, ◌∙◌}
use Rattle.entry.proofs.Replies.{fix-reply, refusal-reply}
use Rattle.entry.proofs.answered.Goals as goal

pub returns-in-Ok : goal.returns-in-Ok
returns-in-Ok c = λ a e. fix-reply c.args.n c.args.altitude a _ c.fix-bytes.result (sym c.in-Ok.is ∙ e) c.fix-bytes.ensures

pub returns-in-Err : goal.returns-in-Err
returns-in-Err c =
    λ a e. refusal-reply c.args.n c.args.altitude a c.refused.result _ c.number.result
    c.detail.result (sym c.in-Err.is ∙ e) c.number.ensures
    c.detail.ensures c.refused.ensures
