-- `inputs::problem_of` meets its contract: what passed is whole and small enough to be read (`Order`), and in the domain (`Sound`); all receptions
-- that the arrays hold pass, if some do (`same_check`). Assumes nothing.
use mathlib.Core.Path.{refl, ◌∙◌}
use mathlib.Core.Bool.{true}
use mir.Syntax.{w64}
use mir.ValLaws.{to_z-of_z}
use Rattle.inputs.proofs.Order.{few, whole-altitude, whole-reference}
use Rattle.inputs.proofs.Held.{same_check}
use Rattle.inputs.proofs.Sound.{clock-whole, is-problem}
use Rattle.inputs.proofs.problem_of.Goals as goal

pub metres_of-site-requires : goal.metres_of-site-requires
metres_of-site-requires c = few _ c.requires.1.1

pub altitude_of-solved_with-requires : goal.altitude_of-solved_with-requires
altitude_of-solved_with-requires c = whole-altitude _ c.requires.1.1

pub reference_of-reference_ps-requires : goal.reference_of-reference_ps-requires
reference_of-reference_ps-requires c = whole-reference _ c.requires.1.1

pub shown_of-shown-requires : goal.shown_of-shown-requires
shown_of-shown-requires c = whole-altitude _ c.requires.1.1

pub put_covariance-requires : goal.put_covariance-requires
put_covariance-requires c =
    let a = c.args in
    let passes = c.requires.1.1 in
    (few _ passes, (clock-whole a.n c.requires.0 a.g a.clock.now a.altitude.now a.reference.now passes).1, refl)

pub returns : goal.returns
returns c = λ at filled.
    let a = c.args in
    let some = c.requires in
    let passes =
    same_check a.f a.n (few _ some.1.1) at some.0 filled some.1.0 true a.g a.clock.now a.altitude.now a.reference.now
    ∙ some.1.1 in
    is-problem a.f a.n at filled a.g a.clock.now a.altitude.now a.reference.now passes
    c.metres_of-site.ensures c.put_covariance.ensures c.altitude_of-solved_with.ensures
    (to_z-of_z w64 c.reference_of-reference_ps.result (record { sfits = c.reference_of-reference_ps.type_inv }) ∙ c.reference_of-reference_ps.ensures)
    c.shown_of-shown.ensures
