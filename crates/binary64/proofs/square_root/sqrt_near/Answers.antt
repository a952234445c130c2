-- `binary64::square_root::sqrt_near` meets its contract: the guess is the root where `unlike` gave 0, and `sqrt` gives it elsewhere. Assumes nothing.
use Rattle.binary64.proofs.square_root.sqrt_near.Goals as goal

pub returns-then-unlike-eq0 : goal.returns-then-unlike-eq0
returns-then-unlike-eq0 c = c.unlike.ensures c.if-unlike-eq0.true
