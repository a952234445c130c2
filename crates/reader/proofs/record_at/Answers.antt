-- `reader::record_at` meets its contract: a place that is refused has no record (`refused`). Assumes nothing.
use mathlib.Core.Path.{◌∙◌}
use Rattle.reader.proofs.Numbered.{not-zero}
use Rattle.reader.proofs.Places.{refused}
use Rattle.reader.proofs.record_at.Goals as goal

pub returns-in-Err : goal.returns-in-Err
returns-in-Err c = refused c.args.file.now c.args.place (λ e. not-zero _ (c.in-Err.ensures.answer ∙ e))
