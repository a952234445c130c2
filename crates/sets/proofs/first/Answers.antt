-- `sets::first` meets its contract: both answers are 2 ^ n - 1, whose lowest n bits are set (`has_first`). Assumes nothing.
use mathlib.Core.Path.{◌≡◌}
use native.Mathlib.Omega.{arith}
use lib.Pow.{pow_pos, ones_lt}
use Rattle.sets.proofs.Masks.{one_bit, has_first}
use Rattle.sets.proofs.first.Goals as goal

pub overflow_sub-result : goal.overflow_sub-result
overflow_sub-result c = omega (arith, one_bit c.args.n c.if-n-lt32.true, pow_pos c.args.n)

pub returns-then-n-lt32 : goal.returns-then-n-lt32
returns-then-n-lt32 c = rw (one_bit c.args.n c.if-n-lt32.true) (has_first c.args.n, ones_lt c.args.n)

pub returns : goal.returns
returns c = let e : c.args.n ≡ 32 = omega arith in rw e (has_first 32, ones_lt 32)
