-- `whitening::timing::covariance_row` meets its contract. The invariant: the places of a and each b' from a to below b hold their values. The measure
-- is what is left of k. Assumes nothing.
use mathlib.Core.Path.{◌≡◌}
use Prim.Native.Nat.{suc, ◌+◌, ◌-◌}
use native.Mathlib.Omega.{arith}
use Rattle.whitening.specs.Covariance.{covariance_row_to}
use Rattle.whitening.proofs.timing.covariance_row.Goals as goal

pub loop-b-init : goal.loop-b-init
unfolding covariance_row_to
loop-b-init c =
    let a = c.args.a in
    let none : a - a ≡ 0 = omega arith in
    (omega arith, omega arith, rw none)

pub shared-value-requires : goal.shared-value-requires
shared-value-requires c =
    let known = c.requires.by_index in
    (omega arith, omega arith, omega arith, known c.args.a (omega arith), known c.loop-b.b (omega arith))

pub set-requires : goal.set-requires
set-requires c = (omega arith, omega arith, omega arith)

pub set-requires-in-loop-b : goal.set-requires-in-loop-b
set-requires-in-loop-b c = (omega arith, omega arith, omega arith)

pub loop-b-preserved : goal.loop-b-preserved
unfolding covariance_row_to
loop-b-preserved c =
    let loop = c.loop-b in
    let a = c.args.a in
    let b = loop.b in
    let next : b + 1 - a ≡ suc (b - a) = omega arith in
    let at : a + (b - a) ≡ b = omega arith in
    (omega arith, omega arith, rw (next, at, ← loop.invariant.2, c.set-in-loop-b.ensures, c.set.ensures, c.shared-value.ensures))

pub returns : goal.returns
returns c =
    let all : c.loop-b.b ≡ c.args.k = omega arith in
    rw all at c.loop-b.invariant.2
