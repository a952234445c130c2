-- `reader::fields::fix_at` meets its contract. Each field is the one of the table (`fix-fields`); each float is finite by its rule. Assumes nothing.
use native.Mathlib.Omega.{arith}
use lib.Dec.{lit<, lit≤}
use mir.Syntax.{w64}
use mir.ValLaws.{to_z-of_z}
use Rattle.reader.proofs.Tests.{low-finite, high-finite, low-three, high-three}
use Rattle.reader.proofs.Assembled.{fix-fields}
use Rattle.reader.proofs.fields.fix_at.Goals as goal

pub three_at-ecef-requires : goal.three_at-ecef-requires
three_at-ecef-requires c = (omega arith, low-three _ c.requires.1 0 (lit≤ tt))

pub number_at-t-requires : goal.number_at-t-requires
number_at-t-requires c = (omega arith, low-finite _ c.requires.1 3 (lit< tt))

pub number_at-requires : goal.number_at-requires
number_at-requires c = (omega arith, low-finite _ c.requires.1 4 (lit< tt))

pub number_at-requires-2 : goal.number_at-requires-2
number_at-requires-2 c = (omega arith, low-finite _ c.requires.1 5 (lit< tt))

pub number_at-requires-3 : goal.number_at-requires-3
number_at-requires-3 c = (omega arith, low-finite _ c.requires.1 6 (lit< tt))

pub three_at-r0-requires : goal.three_at-r0-requires
three_at-r0-requires c = (omega arith, high-three _ c.requires.1 0 (lit≤ tt))

pub three_at-r1-requires : goal.three_at-r1-requires
three_at-r1-requires c =
    (omega arith, high-three _ c.requires.1 3 (lit≤ tt))

pub three_at-r2-requires : goal.three_at-r2-requires
three_at-r2-requires c =
    (omega arith, high-three _ c.requires.1 6 (lit≤ tt))

pub number_at-chi2-requires : goal.number_at-chi2-requires
number_at-chi2-requires c =
    (omega arith, high-finite _ c.requires.1 9 (lit< tt))

pub returns : goal.returns
returns c =
    rw (to_z-of_z w64 c.i64_at-transmit_ps.result (record { sfits = c.i64_at-transmit_ps.type_inv }))
    (fix-fields c.args.s.now
    c.u32_at-mask.ensures
    c.u32_at-dof.ensures
    c.three_at-ecef.ensures
    c.number_at-t.ensures
    c.number_at.ensures
    c.number_at-2.ensures
    c.number_at-3.ensures
    c.i64_at-transmit_ps.ensures
    c.three_at-r0.ensures
    c.three_at-r1.ensures
    c.three_at-r2.ensures
    c.number_at-chi2.ensures)
