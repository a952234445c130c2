-- `mlat_solver::records::mlat_record_at` meets its contract: a place that is not refused has its record in the file (`within-file`).
-- Assumes nothing.
use Prim.Native.Nat.{◌+◌, ◌*◌, ◌≤◌}
use mathlib.Core.Path.{refl, sym, ◌∙◌}
use native.Mathlib.Omega.{arith}
use lib.ListN.{length}
use Rattle.reader.proofs.Numbered.{not-zero}
use Rattle.reader.proofs.Places.{within-file}
use Rattle.mlat_solver.proofs.Lending.{unplaced, placed}
use Rattle.mlat_solver.proofs.records.mlat_record_at.Goals as goal

pub overflow_mul-at : goal.overflow_mul-at
overflow_mul-at c =
    let args = c.args in
    let h : 176 * args.place + 176 ≤ length args.file.now = within-file _ _ (sym c.in-Ok.ensures.answer) in
    omega arith

pub returns-in-Ok : goal.returns-in-Ok
returns-in-Ok c = let both = placed _ _ _ c.in-Ok.ensures.answer _ refl in record { answer = both.0; offset = both.1 }

pub returns-in-Err : goal.returns-in-Err
returns-in-Err c =
    let both = unplaced _ _ _ c.in-Err.ensures.answer _ (not-zero _) in record { answer = c.number.ensures ∙ both.0; offset = both.1 }
