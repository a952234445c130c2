-- `asterix::read_asterix` meets its contract: each number from its bytes (`three`), and any other length is refused. Assumes nothing.
use mathlib.Core.Path.{ap, ◌∙◌}
use Prim.Native.Nat.{◌^◌}
use Rattle.asterix.specs.Held.{complement}
use Rattle.asterix.proofs.Signs.{back}
use Rattle.asterix.proofs.Arms.{three, not-ten}
use Rattle.asterix.proofs.read_asterix.Goals as goal

pub returns-then-s-ne-LENGTH : goal.returns-then-s-ne-LENGTH
returns-then-s-ne-LENGTH c = not-ten _ c.if-s-ne-LENGTH.true

pub returns : goal.returns
returns c =
    three _ c.if-s-ne-LENGTH.false
    (back c.from_bits.type_inv ∙ c.from_bits.ensures ∙ ap (complement (2 ^ 31)) c.four_at.ensures.0)
    (back c.from_bits-2.type_inv ∙ c.from_bits-2.ensures ∙ ap (complement (2 ^ 31)) c.four_at-2.ensures.0)
    (back c.from_bits-3.type_inv ∙ c.from_bits-3.ensures ∙ ap (complement (2 ^ 15)) c.two_at.ensures.0)
