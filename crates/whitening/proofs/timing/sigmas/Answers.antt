-- `whitening::timing::sigmas` meets its contract. The invariant: the entries below i are variances. Their roots are the standard deviations
-- (`roots-fill`). The measure is what is left of n. Assumes nothing.
use mathlib.Core.Path.{◌≡◌, ◌∙◌}
use Prim.Native.Nat.{◌<◌}
use native.Mathlib.Omega.{arith}
use lib.ListN.{length, length-set, replicate}
use Rattle.binary64.specs.Steps.{nought}
use Rattle.whitening.specs.Covariance.{sigma}
use Rattle.whitening.proofs.Ranges.{one_more, roots-fill}
use Rattle.whitening.proofs.timing.sigmas.Goals as goal

pub loop-i-init : goal.loop-i-init
loop-i-init c = (omega arith, omega arith, λ j h. absurd (omega arith))

pub loop-i-preserved : goal.loop-i-preserved
loop-i-preserved c =
    let l = c.loop-i in
    let s = c.args in
    let here : l.i < length l.variances = omega arith in
    let next = one_more l.variances (sigma s.clock.now s.n s.noise.now) l.i _ here l.invariant.2 c.variance.ensures in
    (omega arith, length-set l.variances l.i _ ∙ l.invariant.1, next)

pub returns : goal.returns
returns c =
    let l = c.loop-i in
    let s = c.args in
    let all : l.i ≡ s.n = omega arith in
    c.roots.ensures
    ∙ roots-fill l.variances (replicate 32 nought) (sigma s.clock.now s.n s.noise.now) s.n (rw all at l.invariant.2)
