-- `starts::bancroft::with_places` meets its contract: each return is one case of `lambdas`: no root, one or two (`no-place`, `two-places`). Assumes
-- nothing.
use Rattle.std.proofs.Common.{◌∙◌}
use Rattle.starts.specs.Bancroft.{lambdas}
use Rattle.starts.proofs.Constants.{tiny, four}
use Rattle.starts.proofs.Packed.{no-place, two-places}
use Rattle.starts.proofs.bancroft.with_places.Goals as goal

pub returns-then-abs-2 : goal.returns-then-abs-2
unfolding lambdas
returns-then-abs-2 c =
    rw (tiny, ← c.abs.ensures, c.if-abs.true, ← c.abs-then-abs.ensures, c.if-abs-2.true) c.with_place.ensures

pub returns-then-abs : goal.returns-then-abs
unfolding lambdas
returns-then-abs c = rw (tiny, ← c.abs.ensures, c.if-abs.true, ← c.abs-then-abs.ensures, c.if-abs-2.false)
    (no-place _ _ _ _)

pub returns-then-discriminant : goal.returns-then-discriminant
unfolding lambdas
returns-then-discriminant c =
    rw (tiny, four, ← c.abs.ensures, c.if-abs.false, c.if-discriminant.true, ← c.sqrt-root.ensures)
    (rw c.with_place-one.ensures at c.with_place-then-discriminant.ensures ∙ two-places _ _ _ _ _ _)

pub returns : goal.returns
unfolding lambdas
returns c = rw (tiny, four, ← c.abs.ensures, c.if-abs.false, c.if-discriminant.false) (no-place _ _ _ _)
