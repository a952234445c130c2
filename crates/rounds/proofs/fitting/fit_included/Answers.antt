-- `rounds::fitting::fit_included` meets its contract. What is gathered, and the starts in their array, are those of the definition (`held-is`).
-- Assumes nothing.
use Rattle.std.proofs.Common.{Bool, cond, List, replicate, ap, ◌∙◌, ap₂}
use mathlib.Core.Option.{none, some}
use lib.Ieee.{Float}
use Rattle.binary64.specs.Steps.{nought}
use Rattle.sets.specs.Mask.{has}
use Rattle.best.specs.Held.{receptions}
use Rattle.rounds.specs.Held.{held_over}
use Rattle.rounds.proofs.Gathering.{subset-fits}
use Rattle.rounds.proofs.Points.{starts-few, held-is, before-is}
use Rattle.rounds.proofs.fitting.fit_included.Goals as goal

pub starts-points-requires : goal.starts-points-requires
starts-points-requires c =
    (subset-fits c.args.site.now c.args.z.now c.args.n (has c.args.state.included)
    c.subset-chosen.result c.subset-chosen.ensures c.requires).0

pub best_fit-requires : goal.best_fit-requires
best_fit-requires c =
    let R = receptions c.args.site.now c.args.z.now c.args.noise.now c.args.clock.now c.args.n c.args.altitude in
    let S = has c.args.state.included in
    let g = c.subset-chosen in
    let fits = subset-fits c.args.site.now c.args.z.now c.args.n S g.result g.ensures c.requires in record {
      n_bound = (
        c.requires,
        fits.0,
        starts-few R S c.is_some-had.result c.unwrap_or-previous.result g.result g.ensures
            c.starts-points.result c.starts-points.ensures,
      );
      by_index = fits.1;
    }

pub returns : goal.returns
returns c =
    let R = receptions c.args.site.now c.args.z.now c.args.noise.now c.args.clock.now c.args.n c.args.altitude in
    let g = c.subset-chosen in
    let had = c.is_some-had in
    let previous = c.unwrap_or-previous in
    let before = ap₂ (λ (t : Bool) (p : List Float). cond t (some p) none) had.ensures previous.ensures
    ∙ before-is c.args.state.previous (replicate 4 nought) in
    c.best_fit.ensures ∙ held-is R (has c.args.state.included) had.result previous.result g.result
    g.ensures c.starts-points.result
    c.starts-points.ensures ∙ ap (held_over R (has c.args.state.included)) before
