-- `near::readable` meets its contract. The reader refuses no record that it takes apart, and none is at a place that is refused. Assumes nothing.
use Rattle.std.proofs.Common.{eqb, ap, ◌∙◌}
use Rattle.refusals.specs.Refusals.{answer_of}
use Rattle.reader.specs.Read.{read_of}
use Rattle.reader.proofs.Numbered.{not-zero}
use Rattle.near.proofs.Records.{tested, none-there}
use Rattle.near.proofs.readable.Goals as goal

pub returns-in-Ok : goal.returns-in-Ok
returns-in-Ok c =
    c.is_ok.ensures.value ∙ tested _ c.check.result c.check.ensures
    ∙ ap (λ s. eqb (answer_of (read_of s)) 0) c.in-Ok.ensures.bytes

pub returns-in-Err : goal.returns-in-Err
returns-in-Err c = none-there c.args.file.now c.args.k (λ e. not-zero _ (c.in-Err.ensures.answer ∙ e))
