-- `geo::same` meets its contract: a value is what its bits stand for (`back`), so equal bits are of equal values. Assumes nothing.
use Rattle.std.proofs.Common.{sym, ap, ◌∙◌, eqb-true}
use Rattle.binary64.specs.Steps.{#}
use Rattle.binary64.proofs.Patterns.{back}
use Rattle.geo.proofs.same.Goals as goal

pub returns : goal.returns
returns c = λ t.
    let good = c.well_formed in
    let e = sym c.to_bits.ensures ∙ eqb-true _ _ t ∙ c.to_bits-2.ensures in
    sym (back _ good.0.1) ∙ ap # e ∙ back _ good.1.0.1
