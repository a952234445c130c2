-- `mlat_solver::records::mlat_write_record` meets its contract: each return is an end of the definition. Assumes nothing.
use mathlib.Core.Path.{sym, ◌∙◌}
use mir.Syntax.{w64}
use mir.ValLaws.{to_z-of_z}
use Rattle.mlat_solver.proofs.Lending.{short, lost, handed-on}
use Rattle.mlat_solver.proofs.records.mlat_write_record.Goals as goal

pub returns-then-out-lt176 : goal.returns-then-out-lt176
returns-then-out-lt176 c = let both = short _ _ _ _ c.if-out-lt176.true in record { answer = c.number.ensures ∙ both.0; output = both.1 }

pub returns-then-not-whole : goal.returns-then-not-whole
returns-then-not-whole c =
    let both = lost _ _ _ _ c.if-out-lt176.false (sym c.whole.ensures ∙ c.if-not-whole.true) in
    record { answer = c.number-then-not-whole.ensures ∙ both.0; output = both.1 }

pub returns : goal.returns
returns c =
    let args = c.args in let both = handed-on _ _ _ _ _ _ _ c.if-out-lt176.false
    (sym c.whole.ensures ∙ c.if-not-whole.false)
    (rw (to_z-of_z w64 args.time c.ranges.time) at c.content_of.ensures)
    (c.answer.ensures ∙ c.write.ensures.answer, c.write.ensures.output) in record { answer = both.0; output = both.1 }
