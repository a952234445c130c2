-- `mlat_solver::records::mlat_read_record` meets its contract: what `read` gives is laid out, or nothing is stored. Assumes nothing.
use borrow.Author.Rules.{rules}
use mathlib.Core.Path.{◌∙◌}
use mir.Syntax.{w64}
use mir.ValLaws.{to_z-of_z}
use Rattle.mlat_solver.proofs.Lending.{turned-away, taken-apart}
use Rattle.mlat_solver.proofs.records.mlat_read_record.Goals as goal

pub returns-in-Ok : goal.returns-in-Ok
returns-in-Ok c =
    let v = c.in-Ok.content in
    let both = taken-apart _ _ _ _ v c.in-Ok.ensures c.words_of.ensures c.numbers_of.ensures
    (to_z-of_z w64 v.fix.transmit_ps (record { sfits = search rules })) in
    record { answer = both.0; words = both.1.0; numbers = both.1.1.0; time = both.1.1.1 }

pub returns-in-Err : goal.returns-in-Err
returns-in-Err c =
    let both = turned-away _ _ _ _ _ c.in-Err.ensures in
    record { answer = c.number.ensures ∙ both.0; words = both.1.0; numbers = both.1.1.0; time = both.1.1.1 }
