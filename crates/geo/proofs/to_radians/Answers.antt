-- `geo::to_radians` meets its contract: `radian` has the bits of the library's factor. Assumes nothing.
use Rattle.std.proofs.Common.{◌∙◌, sym, ap}
use Rattle.binary64.specs.Steps.{◌⊗◌}
use Rattle.geo.specs.Geo.{to_radians}
use Rattle.geo.proofs.Constants.{radian, by-pi-bits}
use Rattle.geo.proofs.to_radians.Goals as goal

pub returns : goal.returns
unfolding to_radians
returns c = c.to_radians.ensures ∙ ap (λ f. c.args.x ⊗ f) (by-pi-bits.0 ∙ sym radian)
