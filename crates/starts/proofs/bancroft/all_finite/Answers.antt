-- `starts::bancroft::all_finite` meets its contract: each return is one outcome of the four tests, in the order of the definition. Assumes nothing.
use Rattle.starts.specs.Bancroft.{all_finite}
use Rattle.starts.proofs.bancroft.all_finite.Goals as goal

pub returns-then-is_finite-3 : goal.returns-then-is_finite-3
unfolding all_finite
returns-then-is_finite-3 c =
    rw (
      c.is_finite-then-is_finite-3.ensures,
      ← c.is_finite.ensures,
      c.if-is_finite.true,
      ← c.is_finite-then-is_finite.ensures,
      c.if-is_finite-2.true,
      ← c.is_finite-then-is_finite-2.ensures,
      c.if-is_finite-3.true,
    )

pub returns-else-is_finite-3 : goal.returns-else-is_finite-3
unfolding all_finite
returns-else-is_finite-3 c =
    rw (
      ← c.is_finite.ensures,
      c.if-is_finite.true,
      ← c.is_finite-then-is_finite.ensures,
      c.if-is_finite-2.true,
      ← c.is_finite-then-is_finite-2.ensures,
      c.if-is_finite-3.false,
    )

pub returns-else-is_finite-2 : goal.returns-else-is_finite-2
unfolding all_finite
returns-else-is_finite-2 c = rw (← c.is_finite.ensures, c.if-is_finite.true, ← c.is_finite-then-is_finite.ensures, c.if-is_finite-2.false)

pub returns-else-is_finite : goal.returns-else-is_finite
unfolding all_finite
returns-else-is_finite c = rw (← c.is_finite.ensures, c.if-is_finite.false)
