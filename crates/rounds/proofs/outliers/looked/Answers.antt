-- `rounds::outliers::looked` meets its contract. After i turns it holds both choices among the first i. Assumes nothing.
use Rattle.std.proofs.Common.{◌≡◌, refl, arith}
use Rattle.dense.specs.Entries.{nth}
use Rattle.sets.specs.Choice.{choose}
use Rattle.rounds.proofs.outliers.looked.Goals as goal

pub loop-i-init : goal.loop-i-init
unfolding choose
loop-i-init c = (omega arith, refl)

pub loop-i-preserved : goal.loop-i-preserved
loop-i-preserved c =
    let at = c.loop-i in
    let s = c.args in
    (omega arith, c.look-seen.ensures (nth s.z.now) refl at.invariant.1)

pub returns : goal.returns
returns c = let e : c.loop-i.i ≡ c.args.k = omega arith in rw e at c.loop-i.invariant.1
