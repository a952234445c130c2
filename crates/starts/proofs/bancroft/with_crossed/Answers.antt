-- `starts::bancroft::with_crossed` meets its contract: the coefficients are those of the definition. Assumes nothing.
use Rattle.starts.specs.Bancroft.{crossed}
use Rattle.starts.proofs.bancroft.with_crossed.Goals as goal

pub returns : goal.returns
unfolding crossed
returns c = rw (
  ← c.lorentz-a.ensures,
  ← c.lorentz.ensures,
  ← c.lorentz-c.ensures,
  ← c.with_places.ensures,
)
