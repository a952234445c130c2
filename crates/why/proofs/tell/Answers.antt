-- `why::tell` meets its contract: what the removals and the residuals tell are the states (`told`). Assumes nothing.
use mathlib.Core.Path.{◌∙◌}
use Rattle.why.proofs.Writing.{told}
use Rattle.why.proofs.tell.Goals as goal

pub returns : goal.returns
returns c =
    c.put_states.ensures
    ∙ told c.args.p c.args.fix c.requires.0 _ c.removals-removed.result _
    c.failing-rows.ensures c.removals-removed.ensures (c.residuals-residuals.ensures c.args.p.altitude) _
