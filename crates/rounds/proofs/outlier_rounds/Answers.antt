-- `rounds::outlier_rounds` meets its contract. The invariant: from the state, the rounds that are left give the answer (`Left`), whichever are kept.
-- Assumes nothing.
use Rattle.std.proofs.Common.{sym, refl, ap, ◌∙◌, arith, w64}
use mir.ValLaws.{to_z-of_z}
use Rattle.sets.specs.Mask.{has}
use Rattle.best.specs.Held.{receptions}
use Rattle.rounds.specs.Solve.{later}
use Rattle.rounds.specs.Held.{as_answer}
use Rattle.rounds.proofs.Finished.{told-err, closed-gives, closed-refuses}
use Rattle.rounds.proofs.Runs.{left-start, left-ends, left-settles, left-changes, left-never}
use Rattle.rounds.proofs.outlier_rounds.Goals as goal

pub loop-k-init : goal.loop-k-init
loop-k-init c =
    let R = receptions c.args.site.now c.args.z.now c.args.noise.now c.args.clock.now c.args.n c.args.altitude in (
      omega arith,
      c.requires.1,
      λ ref l. left-start R c.args.kept ref l _ c.args.cap refl,
    )

pub round-requires : goal.round-requires
round-requires c = (c.requires.0, c.loop-k.invariant.1)

pub returns-in_err-step : goal.returns-in_err-step
returns-in_err-step c =
    let R = receptions c.args.site.now c.args.z.now c.args.noise.now c.args.clock.now c.args.n c.args.altitude in
    let at = c.loop-k in
    let made = c.round in
    let why = c.in_err-step.field-0.0 in
    told-err c.from_residual.result why c.from_residual.ensures.1
    ∙ ap as_answer (left-ends R c.args.kept c.args.reference c.requires.0 at.k
    c.args.cap at.state made.result (made.ensures.by_index c.args.reference) c.loop-k-test.true
    (at.invariant.2 c.args.reference c.requires.0) why c.in_err-step.was)

pub loop-k-preserved : goal.loop-k-preserved
loop-k-preserved c =
    let R = receptions c.args.site.now c.args.z.now c.args.noise.now c.args.clock.now c.args.n c.args.altitude in
    let at = c.loop-k in
    let made = c.round in
    let step = c.in_ok-step in
    let is = c.in-Changes.is in (
      omega (arith, c.loop-k-test.true),
      step.ensures.within _ is,
      λ ref l. left-changes R c.args.kept ref l at.k
          c.args.cap at.state made.result (made.ensures.by_index ref) c.loop-k-test.true
          (at.invariant.2 ref l) step.step step.was _ is _ refl,
    )

pub settled-requires : goal.settled-requires
settled-requires c = (c.in_ok-step.ensures.place_value c.in-Settles.is).0

pub returns-in-Settles : goal.returns-in-Settles
returns-in-Settles c =
    let R = receptions c.args.site.now c.args.z.now c.args.noise.now c.args.clock.now c.args.n c.args.altitude in
    let at = c.loop-k in
    let made = c.round in
    let step = c.in_ok-step in
    let met = rw (to_z-of_z w64 c.args.reference c.ranges.reference) at (c.settled.ensures R c.requires.0 at.invariant.1 refl
    (step.ensures.place_value c.in-Settles.is).1) in
    closed-gives (later R c.args.reference (has at.state.included) step.step.fit) _ (sym c.in_ok-settled-in-Settles.was ∙ met)
    ∙ ap as_answer (left-settles R c.args.kept c.args.reference c.requires.0 at.k
    c.args.cap at.state made.result (made.ensures.by_index c.args.reference) c.loop-k-test.true
    (at.invariant.2 c.args.reference c.requires.0) step.step step.was c.in-Settles.is)

pub returns-in_err-settled-in-Settles : goal.returns-in_err-settled-in-Settles
returns-in_err-settled-in-Settles c =
    let R = receptions c.args.site.now c.args.z.now c.args.noise.now c.args.clock.now c.args.n c.args.altitude in
    let at = c.loop-k in
    let made = c.round in
    let step = c.in_ok-step in
    let met = rw (to_z-of_z w64 c.args.reference c.ranges.reference) at (c.settled.ensures R c.requires.0 at.invariant.1 refl
    (step.ensures.place_value c.in-Settles.is).1) in
    closed-refuses (later R c.args.reference (has at.state.included) step.step.fit) _ c.from_residual-in_err-settled-in-Settles.result
    (sym c.in_err-settled-in-Settles.was ∙ met) c.from_residual-in_err-settled-in-Settles.ensures.1
    ∙ ap as_answer (left-settles R c.args.kept c.args.reference c.requires.0 at.k
    c.args.cap at.state made.result (made.ensures.by_index c.args.reference) c.loop-k-test.true
    (at.invariant.2 c.args.reference c.requires.0) step.step step.was c.in-Settles.is)

pub returns : goal.returns
returns c =
    let R = receptions c.args.site.now c.args.z.now c.args.noise.now c.args.clock.now c.args.n c.args.altitude in
    let at = c.loop-k in
    ap as_answer (left-never R c.args.kept c.args.reference c.requires.0 at.k
    c.args.cap at.state c.loop-k-test.false
    (at.invariant.2 c.args.reference c.requires.0))
