-- `patterns::pairs` meets its contract: twice the pairs are n * n - n (`twice`). Assumes nothing.
use native.Mathlib.Omega.{arith}
use Rattle.patterns.proofs.Places.{twice, pairs-six, pairs-code}
use Rattle.patterns.proofs.pairs.Goals as goal

pub overflow_mul-result : goal.overflow_mul-result
overflow_mul-result c = omega (arith, twice c.args.n, pairs-six c.args.n c.requires)

pub overflow_sub-result : goal.overflow_sub-result
overflow_sub-result c = omega (arith, twice c.args.n)

pub returns : goal.returns
returns c = pairs-code c.args.n
