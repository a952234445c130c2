-- `entry::solve` meets its contract: its arrays hold the receptions of its bytes (`few-held`). Assumes nothing.
use Prim.Native.Nat.{◌/◌}
use native.Mathlib.Omega.{arith}
use lib.ListN.{length}
use Rattle.receptions.specs.Receptions.{reception_bytes, reception_at}
use Rattle.entry.proofs.Unpacked.{few-within, few-held}
use Rattle.entry.proofs.solve.Goals as goal

pub of_bytes-f-requires : goal.of_bytes-f-requires
of_bytes-f-requires c =
    let w = few-within (length c.args.receptions.now / reception_bytes) c.few.result c.few.ensures in
    (omega (arith, w.0), w.1)

pub solve_fields-requires : goal.solve_fields-requires
solve_fields-requires c =
    let at = reception_at c.args.receptions.now in
    (at, few-held at _ _ c.few.ensures c.of_bytes-f.ensures)

pub returns : goal.returns
returns c =
    let at = reception_at c.args.receptions.now in
    c.solve_fields.ensures at
    (few-held at _ _ c.few.ensures c.of_bytes-f.ensures)
