-- `find_fixes::decimals::signed` meets its contract. Its test is the definition's. Assumes nothing.
use Rattle.find_fixes.proofs.decimals.signed.Goals as goal

pub returns-then-minus : goal.returns-then-minus
returns-then-minus c = rw c.if-minus.true

pub returns : goal.returns
returns c = rw c.if-minus.false
