-- `inputs::check_rows` meets its contract: each turn adds the next row's check (`passes-next`), and the first that refuses is the outcome
-- (`refuses-first`). Assumes nothing.
use Rattle.std.proofs.Common.{◌≡◌, refl, sym, ◌∙◌, arith, rules, Err}
use Rattle.inputs.specs.Faults.{first_to}
use Rattle.inputs.specs.Inputs.{check_row}
use Rattle.inputs.proofs.Steps.{refuses-first, passes-next}
use Rattle.inputs.proofs.check_rows.Goals as goal

pub loop-i-init : goal.loop-i-init
unfolding first_to
loop-i-init c = (omega arith, refl)

pub returns-in_err-check_row : goal.returns-in_err-check_row
returns-in_err-check_row c =
    let a = c.args in
    let e : c.from_residual.result ≡ Err c.in_err-check_row.field-0.0 = search rules in
    e
    ∙ refuses-first (check_row a.clock.now a.n) c.loop-i.i a.n c.loop-i.invariant.1 (sym c.check_row.ensures ∙ c.in_err-check_row.was)
    (omega arith)

pub loop-i-preserved : goal.loop-i-preserved
loop-i-preserved c =
    let a = c.args in
    (omega arith, passes-next (check_row a.clock.now a.n) c.loop-i.i c.loop-i.invariant.1 (sym c.check_row.ensures ∙ c.in_ok-check_row.was))
