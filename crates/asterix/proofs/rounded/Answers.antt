-- `asterix::rounded` meets its contract: the remainder decides, and at a half the quotient goes up (`down`, `up`). Assumes nothing.
use Prim.Native.Nat.{◌%◌, ◌/◌, ◌<◌, ◌≤◌}
use native.Mathlib.Nat.{mod-lt, div-le_self}
use native.Mathlib.Omega.{arith}
use Rattle.asterix.proofs.Rounding.{down, up}
use Rattle.asterix.proofs.rounded.Goals as goal

pub overflow_mul-n : goal.overflow_mul-n
overflow_mul-n c = let l : c.args.n % c.args.den < c.args.den = mod-lt c.args.n c.requires.1 in record { fits = omega arith }

pub returns-then-n-den : goal.returns-then-n-den
returns-then-n-den c = down _ _ c.requires.1 c.if-n-den.true

pub overflow_add-result : goal.overflow_add-result
overflow_add-result c =
    let args = c.args in
    let l : args.n / args.den ≤ args.n = div-le_self args.n args.den in
    record { fits = omega arith }

pub returns : goal.returns
returns c = up _ _ c.requires.1 c.if-n-den.false
