-- `inputs::corrected` meets its contract: by whether the correction is 0 (`is-zero`, `not-zero`); it is an i32, which a binary64 holds. Assumes
-- nothing.
use mir.Syntax.{w32}
use mir.ValLaws.{to_z-of_z}
use Rattle.inputs.specs.Inputs.{corrected}
use Rattle.inputs.proofs.Limits.{hundred}
use Rattle.inputs.proofs.Correction.{is-zero, not-zero}
use Rattle.inputs.proofs.corrected.Goals as goal

pub returns-then-correction-eq0 : goal.returns-then-correction-eq0
unfolding corrected
returns-then-correction-eq0 c = rw (is-zero c.args.correction c.ranges.correction c.if-correction-eq0.true)

pub returns : goal.returns
unfolding corrected
returns c = rw (
  hundred,
  not-zero c.args.correction c.ranges.correction c.if-correction-eq0.false,
  to_z-of_z w32 c.args.correction c.ranges.correction,
)
