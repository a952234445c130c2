-- `best::best_fit` meets its contract. The whitener is asked first; then the fits are the definition's, and what they come to is its answer
-- (proofs/Judging.antt). Assumes nothing.
use mathlib.Core.Path.{refl, ◌∙◌}
use native.Mathlib.Omega.{arith}
use lib.ListN.{take, length-take}
use Rattle.best.specs.Held.{fits_of, points_to}
use Rattle.best.proofs.Passes.{fits-front, fits-placed}
use Rattle.best.proofs.Judging.{whitened-found, whitened-refused}
use Rattle.best.proofs.best_fit.Goals as goal

pub returns-then-not-whitener : goal.returns-then-not-whitener
returns-then-not-whitener c =
    let s = c.args in
    let w = c.whitener in
    whitened-refused s.clock_m2.now s.n s.noise_m2.now s.index.now s.sites.now s.z.now s.k s.altitude
    (points_to s.at.now s.count) w.result _ w.ensures c.if-not-whitener.true

pub judged-requires : goal.judged-requires
judged-requires c =
    let made = c.fits-fits in (
      c.requires.n_bound.1,
      omega (arith, length-take c.args.count made.result),
      fits-placed _ c.args.at.now c.args.count made.result made.ensures (λ x. refl),
    )

pub returns : goal.returns
returns c =
    let s = c.args in
    let w = c.whitener in
    let made = c.fits-fits in
    c.judged.ensures ∙ whitened-found s.clock_m2.now s.n s.noise_m2.now s.index.now s.sites.now s.z.now s.k
    s.altitude (points_to s.at.now s.count) w.result _ w.ensures c.if-not-whitener.false
    (fits_of (take s.count made.result)) (fits-front _ s.at.now s.count made.result made.ensures)
