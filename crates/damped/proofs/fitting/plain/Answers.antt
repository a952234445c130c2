-- `damped::fitting::plain` meets its contract. The step that `descent` finds decides by the definition's test. Assumes nothing.
use Rattle.damped.specs.Damped.{plain}
use Rattle.damped.proofs.fitting.plain.Goals.{in_default-via-in-Some+else-small, in_default-via-in_default}
use Rattle.damped.proofs.fitting.plain.Goals as goal

pub returns-in-Some : goal.returns-in-Some
unfolding plain
returns-in-Some c = rw (← c.descent.ensures, c.in-Some.is, ← c.small.ensures, c.if-small.true, c.fitted.ensures)

pub returns-in_default : goal.returns-in_default
unfolding plain
returns-in_default c =
    let told = c.descent.ensures in
    elim c.in_default.branch [
      | in_default-via-in-Some+else-small w ↦ rw (← told, w.in-Some.is, ← w.small.ensures, w.if-small.false, c.unfitted.ensures)
      | in_default-via-in_default w ↦ rw (← told, w.in_default.is, c.unfitted.ensures)
    ]
