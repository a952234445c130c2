-- `rounds::solve_problem` meets its contract: what it lends is the problem's. Assumes nothing.
use Rattle.std.proofs.Common.{refl, ap, ◌∙◌, w64, to_z, of_z, rules}
use mir.Val.{SFits}
use mir.ValLaws.{to_z-of_z}
use Rattle.rounds.specs.Held.{as_answer}
use Rattle.rounds.proofs.Runs.{of-problem}
use Rattle.rounds.proofs.solve_problem.Goals as goal

pub returns : goal.returns
returns c =
    let p = c.args.p in
    let f : SFits w64 p.reference_ps = search rules in
    c.solve_lent.ensures
    ∙ ap as_answer (of-problem p _ (to_z w64 (of_z w64 p.reference_ps)) refl (to_z-of_z w64 p.reference_ps f))
