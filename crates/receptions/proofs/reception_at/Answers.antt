-- `receptions::reception_at` meets its contract: field by field, and i64s come back from their bits (`to_z-of_z`). Assumes nothing.
use mir.Syntax.{w64}
use mir.ValLaws.{to_z-of_z}
use Rattle.receptions.specs.Receptions.{reception_at}
use Rattle.receptions.proofs.reception_at.Goals as goal

pub returns : goal.returns
unfolding reception_at
returns c =
    rw (
      to_z-of_z w64 c.i64_at-x.result (record { sfits = c.i64_at-x.type_inv }),
      to_z-of_z w64 c.i64_at-y.result (record { sfits = c.i64_at-y.type_inv }),
      to_z-of_z w64 c.i64_at-z.result (record { sfits = c.i64_at-z.type_inv }),
      to_z-of_z w64 c.i64_at.result (record { sfits = c.i64_at.type_inv }),
      c.id_at-id.ensures,
      c.i64_at-x.ensures,
      c.i64_at-y.ensures,
      c.i64_at-z.ensures,
      c.i64_at.ensures,
      c.f64_at.ensures,
      c.f64_at-2.ensures,
      c.u64_at.ensures,
    )
