-- `inputs::reference_of` meets its contract: by whether it is there. Assumes nothing.
use native.Mathlib.Omega.{arith}
use mir.Syntax.{w64}
use mir.ValLaws.{to_z-of_z}
use Rattle.inputs.proofs.Steps.{sized-there}
use Rattle.inputs.proofs.reference_of.Goals as goal

pub i64_at-requires : goal.i64_at-requires
i64_at-requires c = omega (
  arith,
  sized-there 8 c.args.there c.args.reference.now c.if-there.true
      c.requires,
)

pub returns-then-there : goal.returns-then-there
returns-then-there c = rw (to_z-of_z w64 c.i64_at.result (record { sfits = c.i64_at.type_inv }), c.if-there.true) c.i64_at.ensures

pub returns : goal.returns
returns c = rw c.if-there.false
