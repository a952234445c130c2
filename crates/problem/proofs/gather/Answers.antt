-- `problem::gather` meets its contract. The invariant: the first a values stand in their places. Each index is below 32 by what is asked. Assumes
-- nothing.
use mathlib.Core.Path.{◌≡◌, refl}
use native.Mathlib.Numerals.{add-one}
use native.Mathlib.Omega.{arith}
use Rattle.problem.specs.Gathered.{gather_to}
use Rattle.problem.proofs.gather.Goals as goal

pub loop-a-init : goal.loop-a-init
unfolding gather_to
loop-a-init c = (omega arith, refl)

pub offset_bounds-values-i : goal.offset_bounds-values-i
offset_bounds-values-i c = omega (arith, c.requires.1 c.loop-a.a (omega arith))

pub bounds-values-i : goal.bounds-values-i
bounds-values-i c = omega (arith, c.requires.1 c.loop-a.a (omega arith))

pub loop-a-preserved : goal.loop-a-preserved
unfolding gather_to
loop-a-preserved c = (omega arith, rw (add-one, ← c.loop-a.invariant.1))

pub returns : goal.returns
returns c =
    let e : c.loop-a.a ≡ c.args.k = omega arith in
    rw e at c.loop-a.invariant.1
