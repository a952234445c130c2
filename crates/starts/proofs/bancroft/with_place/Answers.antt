-- `starts::bancroft::with_place` meets its contract: what is not finite is left out. Assumes nothing.
use Rattle.starts.specs.Held.{packed}
use Rattle.starts.specs.Bancroft.{places}
use Rattle.starts.proofs.bancroft.with_place.Goals as goal

pub returns-then-all_finite : goal.returns-then-all_finite
unfolding packed places
returns-then-all_finite c = rw (← c.place_at-params.ensures, ← c.all_finite.ensures, c.if-all_finite.true, ← c.push.ensures)

pub returns : goal.returns
unfolding packed places
returns c = rw (← c.place_at-params.ensures, ← c.all_finite.ensures, c.if-all_finite.false)
