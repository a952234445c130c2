-- `rounds::settled::settled` meets its contract. Each test picks the definition's case, in the same order (Late.antt). Assumes nothing.
use Rattle.std.proofs.Common.{ℕ, ap, ◌∙◌, w64}
use mir.ValLaws.{to_z-of_z}
use Rattle.sets.specs.Sets.{count}
use Rattle.sets.specs.Mask.{has}
use Rattle.problem.specs.declared.Altitude.{Altitude}
use Rattle.limits.specs.Limits.{dof}
use Rattle.rounds.specs.Held.{as_result}
use Rattle.rounds.specs.Solve.{has_altitude}
use Rattle.rounds.proofs.Late.{late-inconsistent, late-finish}
use Rattle.rounds.proofs.settled.settled.Goals as goal

-- the degrees of freedom of the used, by their altitude
abbrev free : ℕ → Altitude → ℕ
free used a = dof (count (has used) 32) (has_altitude a)

pub returns-then-fit-published_chi2_limit : goal.returns-then-fit-published_chi2_limit
returns-then-fit-published_chi2_limit c R n m a norm =
    let degrees = c.dof-dof in
    let limit = c.published_chi2_limit in
    ap as_result (late-inconsistent R c.args.reference_ps c.args.included m n c.args.fit c.args.norm norm
    degrees.result (degrees.ensures ∙ ap (free c.args.included) a) limit.result limit.ensures c.if-fit-published_chi2_limit.true)

pub returns : goal.returns
returns c R n m a norm =
    let degrees = c.dof-dof in
    let limit = c.published_chi2_limit in
    (rw (to_z-of_z w64 c.args.reference_ps c.ranges.reference_ps) at c.finish.ensures)
    ∙ ap as_result (late-finish R c.args.reference_ps c.args.included m n c.args.fit c.args.norm norm
    degrees.result (degrees.ensures ∙ ap (free c.args.included) a) limit.result limit.ensures c.if-fit-published_chi2_limit.false)
