-- `mlat_solver::positions::mlat_from_wire` meets its contract: an arm of the match is an end of the definition (`at`, `unplaced`).
-- Assumes nothing.
use mathlib.Core.Path.{sym, ap, ◌∙◌}
use Rattle.wire.specs.Wire.{from_wire}
use Rattle.mlat_solver.proofs.Written.{at, unplaced}
use Rattle.mlat_solver.proofs.positions.mlat_from_wire.Goals as goal

pub returns-in-Ok : goal.returns-in-Ok
returns-in-Ok c = let both = at _ _ _ (sym (c.in-Ok.ensures ∙ ap from_wire c.whole.ensures)) in record { answer = both.0; position = both.1 }

pub returns-in-Err : goal.returns-in-Err
returns-in-Err c =
    let both = unplaced _ _ _ (sym (c.in-Err.ensures ∙ ap from_wire c.whole.ensures)) in
    record { answer = c.number.ensures ∙ both.0; position = both.1 }
