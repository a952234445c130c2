-- `rounds::outliers::residuals` meets its contract. After i turns the array holds the first i residuals, each by the range and the standard deviation
-- that stand below n (`fill-at`). Assumes nothing.
use Rattle.std.proofs.Common.{◌≡◌, ◌≤◌, List, set, replicate, refl, ap, ◌∙◌, ap₂, add-one, arith}
use lib.Ieee.{Float}
use Rattle.binary64.specs.Steps.{◌⊖◌, ◌⊘◌, nought, abs}
use Rattle.dense.specs.Entries.{nth}
use Rattle.whitening.specs.Covariance.{sigma}
use Rattle.whitening.specs.Whitened.{range_at, residual, fill_to}
use Rattle.whitening.proofs.Costs.{fill-at}
use Rattle.rounds.specs.Solve.{normalised}
use Rattle.rounds.proofs.outliers.residuals.Goals as goal

pub ranges_of-requires : goal.ranges_of-requires
ranges_of-requires c = (omega arith, omega arith)

pub loop-i-init : goal.loop-i-init
unfolding fill_to
loop-i-init c = (omega arith, c.ranges_of.ensures.ranges_after, c.sigmas-sigmas.ensures, λ altitude. refl)

pub loop-i-preserved : goal.loop-i-preserved
unfolding fill_to normalised residual
loop-i-preserved c =
    let l = c.loop-i in
    let s = c.args in
    let zeros = replicate 32 nought in
    let room : s.n ≤ 32 = c.requires in
    let far = ap (λ (y : List Float). nth y l.i) l.invariant.1
    ∙ fill-at (range_at s.site.now s.params) zeros s.n l.i room (omega arith) in
    let spread = ap (λ (y : List Float). nth y l.i) l.invariant.2
    ∙ fill-at (sigma s.clock.now s.n s.noise.now) zeros s.n l.i room (omega arith) in
    let one = ap₂ (λ (r d : Float). r ⊘ d)
    (c.abs.ensures ∙ ap (λ (v : Float). abs (nth s.z.now l.i ⊖ nth s.params 3 ⊖ v)) far) spread in (
      omega arith,
      l.invariant.1,
      l.invariant.2,
      λ altitude. rw add-one (ap₂ (λ (out : List Float) (x : Float). set out l.i x) (l.invariant.3 altitude) one),
    )

pub returns : goal.returns
returns c = λ altitude.
    let l = c.loop-i in
    let all : l.i ≡ c.args.n = omega arith in
    rw all at (l.invariant.3 altitude)
