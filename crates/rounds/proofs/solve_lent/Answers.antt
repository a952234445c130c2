-- `rounds::solve_lent` meets its contract. The rounds start from what the screen keeps, under the definition's cap. Assumes nothing.
use Rattle.std.proofs.Common.{ℤ, ap, ◌∙◌, ap₂, arith, w64}
use mir.ValLaws.{to_z-of_z}
use Rattle.sets.specs.Sets.{Subset}
use Rattle.sets.specs.Mask.{has}
use Rattle.sets.proofs.Counting.{count-le}
use Rattle.best.specs.Held.{receptions}
use Rattle.rounds.specs.Rounds.{outlier_rounds}
use Rattle.rounds.specs.Solve.{setting_of}
use Rattle.rounds.specs.Held.{as_answer}
use Rattle.rounds.proofs.Runs.{solve-cap}
use Rattle.rounds.proofs.solve_lent.Goals as goal

pub overflow_mul-cap : goal.overflow_mul-cap
overflow_mul-cap c = omega (arith, c.count.ensures, count-le (has c.screen-kept.result) 32)

pub overflow_add-cap : goal.overflow_add-cap
overflow_add-cap c = omega (arith, c.count.ensures, count-le (has c.screen-kept.result) 32)

pub outlier_rounds-requires : goal.outlier_rounds-requires
outlier_rounds-requires c = (c.requires, c.screen-kept.ensures.1)

pub returns : goal.returns
returns c =
    let heard = receptions c.args.site.now c.args.z.now c.args.noise.now c.args.clock.now c.args.n c.args.altitude in
    c.outlier_rounds.ensures
    ∙ ap as_answer (solve-cap heard c.screen-kept.result _ c.requires c.count.result c.screen-kept.ensures.1
    c.count.ensures)
    ∙ ap₂ (λ (K : Subset) (r : ℤ). as_answer (outlier_rounds (setting_of heard K r)))
    c.screen-kept.ensures.0 (to_z-of_z w64 c.args.reference_ps c.ranges.reference_ps)
