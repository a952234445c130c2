-- `mlat_solver::displays::mlat_read_asterix` meets its contract: an arm of the match is an end of the definition (`three`, `unread`).
-- Assumes nothing.
use borrow.Author.Rules.{rules}
use mathlib.Core.Path.{sym, ◌∙◌}
use Rattle.mlat_solver.proofs.Written.{three, unread}
use Rattle.mlat_solver.proofs.displays.mlat_read_asterix.Goals as goal

pub returns-in-Ok : goal.returns-in-Ok
returns-in-Ok c =
    let both = three _ _ _ (sym c.in-Ok.ensures) (search rules) (search rules) (search rules) in
    record { answer = both.0; multiples = both.1 }

pub returns-in-Err : goal.returns-in-Err
returns-in-Err c =
    let both = unread _ _ _ (sym c.in-Err.ensures) in record { answer = c.number.ensures ∙ both.0; multiples = both.1 }
