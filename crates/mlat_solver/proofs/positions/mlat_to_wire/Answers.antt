-- `mlat_solver::positions::mlat_to_wire` meets its contract: an arm of the match is an end of the definition (`whole`, `unwritten`).
-- Assumes nothing.
use borrow.Author.Rules.{rules}
use mathlib.Core.Path.{sym, ◌∙◌}
use Rattle.mlat_solver.proofs.Written.{whole, unwritten}
use Rattle.mlat_solver.proofs.positions.mlat_to_wire.Goals as goal

pub returns-in-Ok : goal.returns-in-Ok
returns-in-Ok c =
    let both = whole _ _ _ (sym c.in-Ok.ensures) (search rules) (search rules) (search rules) in
    record { answer = both.0; numbers = both.1 }

pub returns-in-Err : goal.returns-in-Err
returns-in-Err c =
    let both = unwritten _ _ _ (sym c.in-Err.ensures) in record { answer = c.number.ensures ∙ both.0; numbers = both.1 }
