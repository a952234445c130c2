-- `limits::rounding_norm` meets its contract: after k rows the sum is the running sum of the definition. Assumes nothing.
use borrow.Author.Rules.{rules}
use mathlib.Core.Path.{◌≡◌, refl}
use native.Mathlib.Omega.{arith}
use native.Mathlib.Numerals.{add-one}
use Rattle.dense.specs.Entries.{dots}
use Rattle.limits.proofs.rounding_norm.Goals as goal

pub loop-k-init : goal.loop-k-init
unfolding dots
loop-k-init c = (search rules, refl)

pub loop-k-preserved : goal.loop-k-preserved
unfolding dots
loop-k-preserved c = (omega arith, rw (add-one, c.moved-moved.ensures, c.loop-k.invariant.1))

pub returns : goal.returns
returns c = let e : c.loop-k.k ≡ c.args.rows = omega arith in
    rw (← e, ← c.loop-k.invariant.1, c.sqrt.ensures)
