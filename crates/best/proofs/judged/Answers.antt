-- `best::judged` meets its contract. The index of the best is the definition's choice, and each answer is what is made of it (proofs/Judging.antt).
-- Assumes nothing.
use mathlib.Core.Path.{◌≡◌, sym, ap, ◌∙◌}
use mathlib.Core.List.{List}
use Prim.Native.Nat.{ℕ, ◌<◌}
use lib.ListN.{length, length-map}
use lib.Ieee.{Float}
use Rattle.std.specs.Prelude.{Some}
use Rattle.geo.specs.Geo.{from_ecef}
use Rattle.problem.specs.Problem.{position}
use Rattle.sets.specs.Sets.{Subset}
use Rattle.sets.specs.Mask.{has}
use Rattle.damped.specs.declared.Fit.{Fit}
use Rattle.damped.specs.declared.Placed.{Placed}
use Rattle.whitening.specs.Held.{chosen}
use Rattle.best.specs.Best.{fit_at, weighed}
use Rattle.best.specs.Held.{fits_of, placed_at, as_best_at, EachPlaced}
use Rattle.best.proofs.Passes.{fit-at, place-at, choice}
use Rattle.best.proofs.Judging.{top-converged, ambiguous, alone_at}
use Rattle.best.proofs.judged.Goals as goal

many : (fits : List Placed) → length (fits_of fits) ≡ length fits
many fits = length-map fits (λ (x : Placed). x.fit)

-- the place of the best
there : (sites : List Float) (k : ℕ) (fits : List Placed) (S : Subset) (top : ℕ) → EachPlaced fits
    → S ≡ (λ i. weighed sites k (fit_at (fits_of fits) i)) → Some top ≡ choice S (fits_of fits) (length fits) → top < length fits
    → (placed_at fits top).place ≡ from_ecef (position (placed_at fits top).fit.params)
there sites k fits S top each set h l =
    place-at (placed_at fits top) (each top l)
    (ap (λ (f : Fit). f.ok) (sym (fit-at fits top)) ∙ top-converged sites k (fits_of fits) (length fits) (many fits) S set top h)

pub returns-then-rivalled : goal.returns-then-rivalled
returns-then-rivalled c =
    let s = c.args in
    let fits = s.fits.now in
    let top = c.in-Some.top in
    ap (as_best_at (chosen s.k s.sites.now s.z.now s.l.now s.altitude))
    (ambiguous s.sites.now s.k (fits_of fits) (length fits) (many fits) (has c.weighed-mask.result) c.weighed-mask.ensures top
    c.in-Some.ensures.choice c.rivalled.result (placed_at fits top).fit (sym (fit-at fits top)) c.rivalled.ensures c.if-rivalled.true)

pub norm-norm-requires : goal.norm-norm-requires
norm-norm-requires c =
    let s = c.args in
    let best = c.in-Some in (
      c.requires.0,
      there s.sites.now s.k s.fits.now (has c.weighed-mask.result) best.top c.requires.2 c.weighed-mask.ensures best.ensures.choice
          best.ensures.below,
    )

pub returns : goal.returns
returns c =
    let s = c.args in
    let fits = s.fits.now in
    let best = c.in-Some in
    let S = has c.weighed-mask.result in
    alone_at s.sites.now s.k (fits_of fits) (length fits) (many fits) S c.weighed-mask.ensures best.top
    best.ensures.choice c.rivalled.result (placed_at fits best.top).fit (sym (fit-at fits best.top)) c.rivalled.ensures c.if-rivalled.false
    (chosen s.k s.sites.now s.z.now s.l.now s.altitude) _ _
    (there s.sites.now s.k fits S best.top c.requires.2 c.weighed-mask.ensures best.ensures.choice best.ensures.below) c.norm-norm.ensures
