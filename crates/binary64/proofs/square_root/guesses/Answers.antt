-- `binary64::square_root::guesses` meets its contract. The invariant: the array keeps its length, and its entries from k on. The measure is what is
-- left of k. Assumes nothing.
use mathlib.Core.Path.{refl, ◌∙◌}
use native.Mathlib.Omega.{arith}
use lib.ListN.{length-set}
use lib.Seq.{get_or-set_other}
use lib.Ieee.{nan}
use Rattle.binary64.proofs.square_root.guesses.Goals as goal

pub loop-i-init : goal.loop-i-init
loop-i-init c = (omega arith, refl, λ j h. refl)

pub loop-i-preserved : goal.loop-i-preserved
loop-i-preserved c =
    let l = c.loop-i in
    (omega arith, length-set l.out l.i _ ∙ l.invariant.1, λ j h. get_or-set_other l.out l.i j _ nan (λ e. omega arith) ∙ l.invariant.2 j h)

pub returns : goal.returns
returns c = (c.loop-i.invariant.1, c.loop-i.invariant.2)
