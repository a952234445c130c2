-- `why::explained` meets its contract: by the cases of the answer (`Verdicts`). Assumes nothing.
use mathlib.Core.Path.{sym, ◌∙◌}
use Rattle.why.proofs.Verdicts.{fix-verdict, fix-states, refusal-verdict, refusal-states}
use Rattle.why.proofs.explained.Goals as goal

pub returns-in-Ok : goal.returns-in-Ok
returns-in-Ok c =
    let is = sym c.in-Ok.is in record {
      verdict = λ a e. fix-verdict a _ (is ∙ e);
      states = λ a e. c.tell.ensures ∙ fix-states a _ c.args.p c.args.out.now (is ∙ e);
    }

pub returns-in-Err : goal.returns-in-Err
returns-in-Err c =
    let is = sym c.in-Err.is in
    let number = c.number in
    let detail = c.detail in record {
      verdict = λ a e. refusal-verdict a _ number.result detail.result (is ∙ e) number.ensures detail.ensures;
      states = λ a e. refusal-states a _ c.args.p c.args.out.now (is ∙ e);
    }
