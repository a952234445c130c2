-- `binary64::square_root::above` meets its contract: the square by two digits of 26 binary digits is the square (`fold_law`), and no partial product
-- is too large for its type (`small`). Assumes nothing.
use native.Mathlib.Omega.{arith}
use Rattle.binary64.proofs.Fold.{small, fold_law}
use Rattle.binary64.proofs.square_root.above.Goals as goal

pub overflow_mul-result : goal.overflow_mul-result
overflow_mul-result c = let s = small c.args.r c.requires in record { fits = omega arith }

pub overflow_mul-result-3 : goal.overflow_mul-result-3
overflow_mul-result-3 c = let s = small c.args.r c.requires in record { fits = omega arith }

pub overflow_mul-result-4 : goal.overflow_mul-result-4
overflow_mul-result-4 c = let s = small c.args.r c.requires in record { fits = omega arith }

pub overflow_add-result : goal.overflow_add-result
overflow_add-result c = let s = small c.args.r c.requires in record { fits = omega arith }

pub overflow_add-result-2 : goal.overflow_add-result-2
overflow_add-result-2 c = let s = small c.args.r c.requires in record { fits = omega arith }

pub overflow_add-result-3 : goal.overflow_add-result-3
overflow_add-result-3 c = let s = small c.args.r c.requires in record { fits = omega arith }

pub returns : goal.returns
returns c = fold_law c.args.r c.args.r
