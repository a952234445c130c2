-- `reader::fields::three_at` meets its contract: three numbers in turn. Assumes nothing.
use Prim.Native.Nat.{◌+◌}
use mathlib.Core.Path.{◌≡◌}
use native.Mathlib.Omega.{arith}
use lib.Dec.{lit<}
use Rattle.reader.proofs.Tests.{finite-at}
use Rattle.reader.proofs.fields.three_at.Goals as goal

pub number_at-requires : goal.number_at-requires
number_at-requires c =
    let k = c.args.k in
    let e : k + 0 ≡ k = omega arith in
    (omega arith, rw e at (finite-at _ k 3 c.requires.1 0 (lit< tt)))

pub number_at-requires-2 : goal.number_at-requires-2
number_at-requires-2 c = (omega arith, finite-at _ _ 3 c.requires.1 1 (lit< tt))

pub number_at-requires-3 : goal.number_at-requires-3
number_at-requires-3 c = (omega arith, finite-at _ _ 3 c.requires.1 2 (lit< tt))
