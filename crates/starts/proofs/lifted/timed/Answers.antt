-- `starts::lifted::timed` meets its contract: the invariant: the sum is that of the first i times, from the ranges that stand below k (`fill-at`).
-- Assumes nothing.
use Rattle.std.proofs.Common.{◌≡◌, List, replicate, refl, ap, ◌∙◌, ap₂, add-one, arith, rules}
use lib.Ieee.{Float}
use Rattle.binary64.specs.Steps.{◌⊕◌, ◌⊖◌, nought}
use Rattle.dense.specs.Entries.{nth}
use Rattle.problem.specs.Problem.{range}
use Rattle.whitening.proofs.Costs.{fill-at}
use Rattle.starts.specs.Lifted.{sent_to, timed}
use Rattle.starts.proofs.lifted.timed.Goals as goal

pub ranges_of-requires : goal.ranges_of-requires
ranges_of-requires c = (omega arith, omega arith)

pub loop-i-init : goal.loop-i-init
unfolding sent_to
loop-i-init c = (search rules, refl)

pub loop-i-preserved : goal.loop-i-preserved
unfolding sent_to
loop-i-preserved c =
    let l = c.loop-i in
    let s = c.args in
    let f = range s.sites.now s.x in
    let far : nth c.ranges_of.new.ranges l.i ≡ f l.i =
    ap (λ (y : List Float). nth y l.i) c.ranges_of.ensures.ranges_after
    ∙ fill-at f (replicate 32 nought) s.k l.i (omega (arith, c.requires)) (omega arith) in
    (omega arith, rw add-one (ap₂ (λ (sum v : Float). sum ⊕ (nth s.z.now l.i ⊖ v)) l.invariant.1 far))

pub returns : goal.returns
unfolding timed
returns c = let e : c.loop-i.i ≡ c.args.k = omega arith in
    rw (c.size.ensures, c.loop-i.invariant.1, e)
