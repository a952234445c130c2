-- `rounds::outliers::look` meets its contract. An included reception is weighed as the worst, a left-out one as the
-- least, another not at all (`look-included`, `look-left-out`, `look-other`). Assumes nothing.
use Rattle.std.proofs.Common.{sym, ◌∙◌}
use Rattle.sets.specs.Mask.{has}
use Rattle.rounds.proofs.Looks.{look-included, look-left-out, look-other}
use Rattle.rounds.proofs.outliers.look.Goals as goal

pub returns-then-has : goal.returns-then-has
returns-then-has c =
    λ z e h. look-included (has c.args.kept) (has c.args.included) z c.args.i c.args.seen h c.args.x e
    (sym c.has.ensures ∙ c.if-has.true) c.worst_with.result c.worst_with.ensures

pub returns-then-has-2 : goal.returns-then-has-2
returns-then-has-2 c =
    λ z e h. look-left-out (has c.args.kept) (has c.args.included) z c.args.i c.args.seen h c.args.x e
    (sym c.has.ensures ∙ c.if-has.false)
    (sym c.has-2.ensures ∙ c.if-has-2.true) c.least_with.result c.least_with.ensures

pub returns : goal.returns
returns c =
    λ z e h. look-other (has c.args.kept) (has c.args.included) z c.args.i c.args.seen h
    (sym c.has.ensures ∙ c.if-has.false) (sym c.has-2.ensures ∙ c.if-has-2.false)
