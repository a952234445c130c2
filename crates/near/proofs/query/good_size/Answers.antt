-- `near::query::good_size` meets its contract. By the definition, whose constant has the bits of the code's. Assumes nothing.
use Rattle.std.proofs.Common.{rules}
use Rattle.near.specs.Near.{good_size}
use Rattle.near.proofs.Constants.{farthest-bits}
use Rattle.near.proofs.query.good_size.Goals as goal

pub returns-then-is_finite : goal.returns-then-is_finite
unfolding good_size
returns-then-is_finite c = rw farthest-bits (search rules)

pub returns-else-is_finite : goal.returns-else-is_finite
unfolding good_size
returns-else-is_finite c = rw farthest-bits (search rules)
