-- `whitening::rows::ranges_of` meets its contract. The invariant: the entries below i are squares of ranges. Their roots are the ranges
-- (`roots-fill`). The measure is what is left of k. Assumes nothing.
use mathlib.Core.Path.{◌≡◌, ◌∙◌}
use Prim.Native.Nat.{◌<◌}
use native.Mathlib.Omega.{arith}
use lib.ListN.{length, length-set}
use Rattle.problem.specs.Problem.{range}
use Rattle.whitening.proofs.Ranges.{one_more, roots-fill}
use Rattle.whitening.proofs.rows.ranges_of.Goals as goal

pub loop-i-init : goal.loop-i-init
loop-i-init c = (omega arith, c.requires.1, λ j h. absurd (omega arith))

pub loop-i-preserved : goal.loop-i-preserved
loop-i-preserved c =
    let l = c.loop-i in
    let s = c.args in
    let here : l.i < length l.squared = omega arith in
    let next = one_more l.squared (range s.sites.now s.x) l.i _ here l.invariant.2 c.squared_range.ensures in
    (omega arith, length-set l.squared l.i _ ∙ l.invariant.1, next)

pub returns : goal.returns
returns c =
    let l = c.loop-i in
    let s = c.args in
    let all : l.i ≡ s.k = omega arith in record {
      squared_len = l.invariant.1;
      ranges_after = c.roots.ensures ∙ roots-fill l.squared s.ranges.now (range s.sites.now s.x) s.k (rw all at l.invariant.2);
    }
