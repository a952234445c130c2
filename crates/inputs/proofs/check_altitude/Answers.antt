-- `inputs::check_altitude` meets its contract: by whether it is there. Assumes nothing.
use mathlib.Core.Path.{◌∙◌}
use mir.Syntax.{w32}
use mir.ValLaws.{to_z-of_z}
use Rattle.inputs.proofs.Steps.{sized-there}
use Rattle.inputs.proofs.check_altitude.Goals as goal

pub returns-then-not-there : goal.returns-then-not-there
returns-then-not-there c = rw (c.if-not-there.true)

pub kind_at-kind-requires : goal.kind_at-kind-requires
kind_at-kind-requires c = sized-there 16 c.args.there c.args.altitude.now c.if-not-there.false c.requires

pub correction_at-correction-requires : goal.correction_at-correction-requires
correction_at-correction-requires c = sized-there 16 c.args.there c.args.altitude.now c.if-not-there.false c.requires

pub metres_at-requires : goal.metres_at-requires
metres_at-requires c = sized-there 16 c.args.there c.args.altitude.now c.if-not-there.false c.requires

pub returns : goal.returns
returns c =
    c.unless.ensures
    ∙ rw (
      c.good_altitude-good.ensures,
      to_z-of_z w32 c.correction_at-correction.result (record { sfits = c.correction_at-correction.type_inv }),
      c.kind_at-kind.ensures,
      c.correction_at-correction.ensures,
      c.metres_at.ensures,
      c.if-not-there.false,
    )
