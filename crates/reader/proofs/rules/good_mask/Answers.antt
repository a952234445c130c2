-- `reader::rules::good_mask` meets its contract. Bit n of a u64 is 2 to the n. Assumes nothing.
use Prim.Native.Nat.{◌^◌, ◌*◌, ◌%◌, ◌<◌}
use mathlib.Core.Path.{◌≡◌}
use native.Mathlib.Omega.{arith}
use lib.Pow.{pow-lt}
use Rattle.reader.specs.Tests.{good_mask}
use Rattle.reader.proofs.rules.good_mask.Goals as goal

pub returns : goal.returns
unfolding good_mask
returns c =
    let l : 2 ^ c.args.n < 18446744073709551616 = pow-lt {i = c.args.n} {j = 64} (omega arith) in
    let e : 1 * 2 ^ c.args.n % 18446744073709551616 ≡ 2 ^ c.args.n = omega arith in
    rw e
