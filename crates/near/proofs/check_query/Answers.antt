-- `near::check_query` meets its contract. Each return is an end of the definition. Assumes nothing.
use Rattle.std.proofs.Common.{sym, ap, ◌∙◌}
use Rattle.near.specs.Near.{query_refusal}
use Rattle.reader.proofs.Numbered.{not-zero, passed-on}
use Rattle.near.proofs.Refusing.{refused-file, bad-query, asked}
use Rattle.near.proofs.check_query.Goals as goal

pub returns-in_err-check_file : goal.returns-in_err-check_file
returns-in_err-check_file c =
    passed-on _ _ c.from_residual.ensures.1 ∙ refused-file c.args.file.now c.args.good _ c.in_err-check_file.ensures (not-zero _)

pub returns-then-not-good : goal.returns-then-not-good
returns-then-not-good c =
    bad-query _ (sym c.in_ok-check_file.ensures)
    ∙ ap (query_refusal c.args.file.now) (sym (c.if-not-good.true))

pub returns : goal.returns
returns c =
    asked _ (sym c.in_ok-check_file.ensures)
    ∙ ap (query_refusal c.args.file.now) (sym (c.if-not-good.false))
