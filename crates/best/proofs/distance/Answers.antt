-- `best::distance` meets its contract. The steps are the definition's, and the product is what `mul_vec` ensures. Assumes nothing.
use borrow.Author.Rules.{rules}
use mathlib.Core.Path.{◌≡◌}
use native.Mathlib.Omega.{arith}
use lib.ListN.{length}
use Rattle.dense.specs.Entries.{dots}
use Rattle.best.specs.Best.{distance}
use Rattle.best.proofs.distance.Goals as goal

pub mul_vec-requires : goal.mul_vec-requires
mul_vec-requires c = let l : length c.args.best.information ≡ 16 = search rules in
    (omega arith, omega arith, omega arith)

pub returns : goal.returns
unfolding distance dots
returns c = rw c.mul_vec.ensures
