-- `reader::fields::content_at` meets its contract: a refusal shows three numbers, a fix all fields of the table (`content-fields`). Assumes nothing.
use native.Mathlib.Omega.{arith}
use mathlib.Core.Path.{refl, sym, ◌∙◌}
use Rattle.reader.proofs.Tests.{metres-finite, fix-meets}
use Rattle.reader.proofs.Assembled.{content-fields, content-fixed, content-refused}
use Rattle.reader.proofs.fields.content_at.Goals as goal

pub returns-then-answer-ne0 : goal.returns-then-answer-ne0
returns-then-answer-ne0 c =
    let s = c.args.s.now in
    rw (c.u32_at-answer.ensures, c.u32_at-detail.ensures, c.u32_at-n.ensures) at
    c.refused.ensures ∙ content-refused s (rw c.u32_at-answer.ensures at c.if-answer-ne0.true)

pub number_at-requires : goal.number_at-requires
number_at-requires c =
    (omega arith, metres-finite _ (fix-meets _ (sym c.u32_at-answer.ensures ∙ c.if-answer-ne0.false) c.requires.1))

pub fix_at-fix-requires : goal.fix_at-fix-requires
fix_at-fix-requires c =
    (c.requires.0, fix-meets _ (sym c.u32_at-answer.ensures ∙ c.if-answer-ne0.false) c.requires.1)

pub returns : goal.returns
returns c =
    let s = c.args.s.now in
    content-fields s c.u32_at-detail.ensures c.u32_at-n.ensures refl
    c.number_at.ensures
    c.altitude_of-altitude.ensures
    c.fix_at-fix.ensures
    ∙ content-fixed s (sym c.u32_at-answer.ensures ∙ c.if-answer-ne0.false)
