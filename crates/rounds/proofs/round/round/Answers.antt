-- `rounds::round::round` meets its contract. Each test picks the definition's case, and the place and the norm are the best fit's (Turns.antt).
-- Assumes nothing.
use Rattle.std.proofs.Common.{List, replicate, Err, sym, ap, ◌∙◌}
use Rattle.std.specs.Prelude.{Ok}
use lib.Ieee.{Float}
use Rattle.binary64.specs.Steps.{nought}
use Rattle.dense.specs.Entries.{nth}
use Rattle.sets.specs.Mask.{has}
use Rattle.whitening.proofs.Costs.{fill-at}
use Rattle.best.specs.Held.{receptions}
use Rattle.rounds.specs.declared.outliers.Turn.{Turn}
use Rattle.rounds.specs.Setting.{of_unfit}
use Rattle.rounds.specs.Held.{previous_of, step_by}
use Rattle.rounds.proofs.Finished.{told-err}
use Rattle.rounds.proofs.Turns.{best-place, best-norm, round-few, round-unfit, round-fitted}
use Rattle.rounds.proofs.round.round.Goals as goal

pub returns-then-count-minimum-clause-by_index : goal.returns-then-count-minimum-clause-by_index
returns-then-count-minimum-clause-by_index c reference =
    let R = receptions c.args.site.now c.args.z.now c.args.noise.now c.args.clock.now c.args.n c.args.altitude in
    let n = c.count-count in
    round-few R c.args.kept reference c.requires.0 c.args.state.included c.requires.1 (previous_of c.args.state) n.result
    n.ensures (rw c.minimum.ensures at c.if-count-minimum.true)

pub returns-in_err-best-clause-by_index : goal.returns-in_err-best-clause-by_index
returns-in_err-best-clause-by_index c reference =
    let R = receptions c.args.site.now c.args.z.now c.args.noise.now c.args.clock.now c.args.n c.args.altitude in
    let n = c.count-count in
    let why = c.in_err-best.field-0.0 in
    ap step_by (told-err c.from_residual.result (of_unfit why) c.from_residual.ensures.1)
    ∙ round-unfit R c.args.kept reference c.requires.0 c.args.state.included c.requires.1 (previous_of c.args.state)
    n.result n.ensures (rw c.minimum.ensures at c.if-count-minimum.false) why (sym c.in_err-best.was ∙ c.fit_included.ensures)

pub returns-in_err-turn-clause-by_index : goal.returns-in_err-turn-clause-by_index
returns-in_err-turn-clause-by_index c reference =
    let R = receptions c.args.site.now c.args.z.now c.args.noise.now c.args.clock.now c.args.n c.args.altitude in
    let n = c.count-count in
    let best = c.in_ok-best in
    let left = c.residuals-left in
    let why = c.in_err-turn.field-0.0 in
    let told = told-err c.from_residual-in_err-turn.result why c.from_residual-in_err-turn.ensures.1 in
    ap step_by told
    ∙ round-fitted R c.args.kept reference c.requires.0 c.args.state.included c.requires.1 (previous_of c.args.state)
    n.result n.ensures (rw c.minimum.ensures at c.if-count-minimum.false) best.best (sym best.was ∙ c.fit_included.ensures) left.result
    (λ j l. ap (λ (v : List Float). nth v j) (left.ensures c.args.altitude)
    ∙ fill-at _ (replicate 32 nought) c.args.n j c.requires.0 l) (Err why)
    (rw c.in_err-turn.was at (c.decided.ensures.0 best.best.fit))

pub returns-clause-by_index : goal.returns-clause-by_index
returns-clause-by_index c reference =
    let R = receptions c.args.site.now c.args.z.now c.args.noise.now c.args.clock.now c.args.n c.args.altitude in
    let n = c.count-count in
    let best = c.in_ok-best in
    let left = c.residuals-left in
    round-fitted R c.args.kept reference c.requires.0 c.args.state.included c.requires.1 (previous_of c.args.state)
    n.result n.ensures (rw c.minimum.ensures at c.if-count-minimum.false) best.best (sym best.was ∙ c.fit_included.ensures) left.result
    (λ j l. ap (λ (v : List Float). nth v j) (left.ensures c.args.altitude)
    ∙ fill-at _ (replicate 32 nought) c.args.n j c.requires.0 l) (Ok c.in_ok-turn.turn)
    (rw c.in_ok-turn.was at (c.decided.ensures.0 best.best.fit))

pub returns-clause-within : goal.returns-clause-within
returns-clause-within c m q =
    c.decided.ensures.1 m (c.in_ok-turn.was ∙ ap (λ (t : Turn). Ok t) q)

pub returns-clause-place_value : goal.returns-clause-place_value
returns-clause-place_value c q =
    let R = receptions c.args.site.now c.args.z.now c.args.noise.now c.args.clock.now c.args.n c.args.altitude in
    let S = has c.args.state.included in
    let best = c.in_ok-best in
    let is = sym best.was ∙ c.fit_included.ensures in (
      best-place R S (previous_of c.args.state) best.best is,
      best-norm R S (previous_of c.args.state) c.requires.0 best.best is,
    )
