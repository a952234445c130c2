-- `near::step` meets its contract. Each return is a case of the definition. Assumes nothing.
use Rattle.std.proofs.Common.{sym, ◌∙◌}
use borrow.Author.Tests.{not-true, not-false}
use Rattle.near.specs.Near.{step}
use Rattle.near.proofs.Steps.{first, closer-one, kept}
use Rattle.near.proofs.step.Goals as goal

pub returns-then-not-is_fix : goal.returns-then-not-is_fix
unfolding step
returns-then-not-is_fix c =
    rw (← c.is_fix.ensures, c.if-not-is_fix.true)

pub returns-then-not-held : goal.returns-then-not-held
returns-then-not-held c =
    first _ _ _ _ c.args.held
    (sym c.is_fix.ensures ∙ c.if-not-is_fix.false)
    c.distance-d.ensures
    (not-true _ c.if-not-held.true)

pub returns-then-d-held : goal.returns-then-d-held
returns-then-d-held c =
    closer-one _ _ _ _ c.args.held
    (sym c.is_fix.ensures ∙ c.if-not-is_fix.false)
    c.distance-d.ensures
    (not-false _ c.if-not-held.false)
    c.if-d-held.true

pub returns : goal.returns
returns c =
    kept _ _ _ _ c.args.held
    (sym c.is_fix.ensures ∙ c.if-not-is_fix.false)
    c.distance-d.ensures
    (not-false _ c.if-not-held.false)
    c.if-d-held.false
