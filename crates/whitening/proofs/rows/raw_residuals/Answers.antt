-- `whitening::rows::raw_residuals` meets its contract. The invariant: the residuals are filled below i, from the ranges that stand below k
-- (`fill-at`). The measure is what is left of k. Assumes nothing.
use mathlib.Core.Path.{◌≡◌, refl, ap, ◌∙◌}
use mathlib.Core.List.{List}
use native.Mathlib.Numerals.{add-one}
use native.Mathlib.Omega.{arith}
use lib.Ieee.{Float}
use Rattle.dense.specs.Entries.{nth}
use Rattle.whitening.specs.Whitened.{range_at, residual, raw_row, fill_to}
use Rattle.whitening.proofs.Costs.{fill-at}
use Rattle.whitening.proofs.rows.raw_residuals.Goals as goal

pub loop-i-init : goal.loop-i-init
unfolding fill_to
loop-i-init c = (omega arith, refl)

pub loop-i-preserved : goal.loop-i-preserved
unfolding fill_to raw_row residual
loop-i-preserved c =
    let l = c.loop-i in
    let s = c.args in
    let f = range_at s.sites.now s.p in
    let far : nth c.ranges_of.new.ranges l.i ≡ f l.i =
    ap (λ (y : List Float). nth y l.i) c.ranges_of.ensures.ranges_after
    ∙ fill-at f s.ranges.now s.k l.i (omega (arith, c.requires.2)) (omega arith) in
    (omega arith, rw (add-one, ← l.invariant.1, far))

pub returns : goal.returns
returns c =
    let l = c.loop-i in
    let all : l.i ≡ c.args.k = omega arith in record {
      r_after = rw all at l.invariant.1;
      squared_len = c.ranges_of.ensures.squared_len;
      ranges_after = c.ranges_of.ensures.ranges_after;
    }
