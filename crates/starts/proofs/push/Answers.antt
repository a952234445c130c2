-- `starts::push` meets its contract: there is room, and the four stores are those of the definition, or there is none. Assumes nothing.
use Rattle.std.proofs.Common.{le-ltb, lt-ltb}
use Rattle.starts.specs.Held.{push}
use Rattle.starts.proofs.push.Goals as goal

pub returns-then-n-lt18 : goal.returns-then-n-lt18
unfolding push
returns-then-n-lt18 c = rw (lt-ltb _ _ c.if-n-lt18.true)

pub returns : goal.returns
unfolding push
returns c = rw (le-ltb _ _ c.if-n-lt18.false)
