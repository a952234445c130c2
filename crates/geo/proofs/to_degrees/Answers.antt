-- `geo::to_degrees` meets its contract: `degree` has the bits of the library's factor. Assumes nothing.
use Rattle.std.proofs.Common.{◌∙◌, sym, ap}
use Rattle.binary64.specs.Steps.{◌⊗◌}
use Rattle.geo.specs.Geo.{to_degrees}
use Rattle.geo.proofs.Constants.{degree, by-pi-bits}
use Rattle.geo.proofs.to_degrees.Goals as goal

pub returns : goal.returns
unfolding to_degrees
returns c = c.to_degrees.ensures ∙ ap (λ f. c.args.x ⊗ f) (by-pi-bits.1 ∙ sym degree)
