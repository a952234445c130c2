-- `binary64::square_root::sqrt` meets its contract: x is what its bits stand for (`back`), and the guess has the bits of the root, since `off` gave
-- 0, or `halved` gave the root. Assumes nothing.
use mathlib.Core.Path.{sym, ap, ◌∙◌}
use Rattle.binary64.specs.Root.{root}
use Rattle.binary64.proofs.Patterns.{number, is-nan, back}
use Rattle.binary64.proofs.square_root.sqrt.Goals as goal

pub returns-then-x : goal.returns-then-x
unfolding root
returns-then-x c = rw (is-nan _ c.if-x.true)

pub float_to_bits-bits : goal.float_to_bits-bits
float_to_bits-bits c = number _ c.if-x.false

pub returns-then-off-eq0 : goal.returns-then-off-eq0
returns-then-off-eq0 c =
    let p = c.off.ensures c.if-off-eq0.true c.if-bits-ge-LEAD.true c.if-bits-lt-INFINITY.true in
    sym (c.bits_of.ensures p.0) ∙ p.1 ∙ ap root (back _ c.well_formed.0.1)
