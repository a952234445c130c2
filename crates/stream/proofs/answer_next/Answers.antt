-- `stream::answer_next` meets its contract: each of its ends is one of the definition's (`Solving`). Assumes nothing.
use Rattle.std.proofs.Common.{sym, ◌∙◌}
use Rattle.stream.proofs.Solving.{answer-short, answer-is_due}
use Rattle.stream.proofs.answer_next.Goals as goal

pub returns-then-out-lt-RECORD : goal.returns-then-out-lt-RECORD
returns-then-out-lt-RECORD c =
    let all = answer-short c.args.stream.now c.args.out.now c.args.used.now c.if-out-lt-RECORD.true in
    record { answer = c.number.ensures ∙ all.0; output = all.1.0; used = all.1.1 }

pub returns-in-Some : goal.returns-in-Some
returns-in-Some c =
    let all = answer-is_due c.args.stream.now c.args.out.now c.args.used.now _ _ c.if-out-lt-RECORD.false
    (sym c.in-Some.is ∙ c.solve_next.ensures.outcome) c.solve_next.ensures.output in
    record { answer = all.0; output = all.1.0; used = all.1.1 }

pub returns-in-None : goal.returns-in-None
returns-in-None c =
    let all = answer-is_due c.args.stream.now c.args.out.now c.args.used.now _ _ c.if-out-lt-RECORD.false
    (sym c.in-None.is ∙ c.solve_next.ensures.outcome) c.solve_next.ensures.output in
    record { answer = c.number-in-None.ensures ∙ all.0; output = all.1.0; used = all.1.1 }
