-- `damped::fitting::levenberg_marquardt` meets its contract. It is what `refined` gives, beside its place. Assumes nothing.
use mathlib.Core.Path.{refl, ap, ◌∙◌}
use Rattle.damped.specs.Held.{placed}
use Rattle.damped.proofs.fitting.levenberg_marquardt.Goals as goal

pub refined-ended-requires : goal.refined-ended-requires
refined-ended-requires c = record {
  k_bound = (c.requires, c.place-at.ensures);
  scratch = ((refl, refl, refl), (refl, refl, refl, refl));
}

pub placed-requires : goal.placed-requires
placed-requires c = c.refined-ended.ensures.place_value

pub returns : goal.returns
returns c = c.placed.ensures ∙ ap placed c.refined-ended.ensures.fit_value
