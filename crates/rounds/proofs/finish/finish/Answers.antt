-- `rounds::finish::finish` meets its contract: each test picks the definition's case, in the same order. Assumes nothing.
use Rattle.std.proofs.Common.{Err, sym, ap, ◌∙◌, w64}
use mir.ValLaws.{to_z-of_z}
use Rattle.problem.specs.Problem.{transmit_m}
use Rattle.rounds.specs.declared.finish.Unpublished.TheVariants.{OutOfRange}
use Rattle.rounds.specs.Finish.{transmit_ps}
use Rattle.rounds.specs.Held.{as_result}
use Rattle.rounds.proofs.Moments.{moment-read}
use Rattle.rounds.proofs.Finished.{singular, uncertain, out-of-range, gives-fix, none-told, some-told, told-err}
use Rattle.rounds.proofs.finish.finish.Goals as goal

pub returns-then-not-factor : goal.returns-then-not-factor
returns-then-not-factor c =
    ap as_result (singular c.args.mask c.args.dof c.args.reference_ps c.args.fit _ (rw c.if-not-factor.true at c.factor.ensures))

pub returns-then-not-certain : goal.returns-then-not-certain
returns-then-not-certain c =
    ap as_result (uncertain c.args.mask c.args.dof c.args.reference_ps c.args.fit _ c.covariance-c.result
    (rw c.if-not-factor.false at c.factor.ensures)
    c.covariance-c.ensures (sym c.certain.ensures ∙ c.if-not-certain.true))

pub returns-in_err-transmit_ps : goal.returns-in_err-transmit_ps
returns-in_err-transmit_ps c =
    let e = c.in_err-transmit_ps.field-0.0 in
    let told = none-told OutOfRange c.transmit.result e (sym c.in_err-transmit_ps.was ∙ c.ok_or.ensures.value) in
    let timed = rw (to_z-of_z w64 c.args.reference_ps c.ranges.reference_ps) at c.transmit.ensures in
    told-err c.from_residual.result e c.from_residual.ensures.1 ∙ ap Err told.1
    ∙ ap as_result (out-of-range c.args.mask c.args.dof c.args.reference_ps c.args.fit _ c.covariance-c.result
    (rw c.if-not-factor.false at c.factor.ensures)
    c.covariance-c.ensures (sym c.certain.ensures ∙ c.if-not-certain.false) (told.0 ∙ timed))

pub returns : goal.returns
returns c =
    let told = some-told OutOfRange c.transmit.result c.in_ok-transmit_ps.transmit_ps (sym c.in_ok-transmit_ps.was ∙ c.ok_or.ensures.value) in
    let timed = rw (to_z-of_z w64 c.args.reference_ps c.ranges.reference_ps) at c.transmit.ensures in
    ap as_result (gives-fix c.args.mask c.args.dof c.args.reference_ps c.args.fit _ c.covariance-c.result
    (rw c.if-not-factor.false at c.factor.ensures)
    c.covariance-c.ensures (sym c.certain.ensures ∙ c.if-not-certain.false) c.in_ok-transmit_ps.transmit_ps (told ∙ timed)
    c.fix_of.result
    (rw (moment-read (transmit_ps c.args.reference_ps (transmit_m c.args.fit.params)) c.in_ok-transmit_ps.transmit_ps (told ∙ timed)) at
    c.fix_of.ensures))
