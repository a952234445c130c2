-- `inputs::put_covariance` meets its contract: each turn stores the next entry (`fill-next`). Assumes nothing.
use mathlib.Core.Path.{◌≡◌}
use Prim.Native.Nat.{◌*◌}
use native.Mathlib.Omega.{arith}
use Rattle.dense.proofs.Places.{room}
use Rattle.receptions.specs.Receptions.{fill_to, floats}
use Rattle.inputs.specs.Inputs.{upper_at}
use Rattle.receptions.proofs.Filling.{fill-next}
use Rattle.inputs.proofs.put_covariance.Goals as goal

pub overflow_mul-k-end : goal.overflow_mul-k-end
overflow_mul-k-end c = omega (arith, room c.args.n c.requires.0)

pub loop-k-init : goal.loop-k-init
unfolding fill_to
loop-k-init c = (omega arith, c.requires.2)

pub upper_at-requires : goal.upper_at-requires
upper_at-requires c = (c.requires.0, omega arith, c.requires.1)

pub offset_bounds-out-k : goal.offset_bounds-out-k
offset_bounds-out-k c = omega (arith, room c.args.n c.requires.0)

pub bounds-out-k : goal.bounds-out-k
bounds-out-k c = omega (arith, room c.args.n c.requires.0)

pub overflow_step-k : goal.overflow_step-k
overflow_step-k c = omega (arith, room c.args.n c.requires.0)

pub loop-k-preserved : goal.loop-k-preserved
loop-k-preserved c =
    let a = c.args in
    (omega arith, rw (c.loop-k.invariant.1, c.upper_at.ensures) (fill-next (floats 1024) (upper_at a.clock.now a.n) c.loop-k.k))

pub returns : goal.returns
returns c =
    let n = c.args.n in
    let e : c.loop-k.k ≡ n * n = omega arith in
    rw e at c.loop-k.invariant.1
