-- `patterns::tallied` meets its contract. The invariant: the counts are those of the patterns below p (`Tallied`). Assumes nothing.
use mathlib.Core.Path.{◌≡◌, refl, ap, ◌∙◌}
use Prim.Native.Nat.{ℕ, ◌*◌, ◌^◌, ◌%◌, ◌<◌}
use native.Mathlib.Omega.{arith}
use lib.ListN.{length, length-set}
use Rattle.sets.proofs.Masks.{one_bit}
use Rattle.patterns.specs.Patterns.{pairs}
use Rattle.patterns.proofs.Places.{pairs-six}
use Rattle.patterns.proofs.Sum.{left, left_le}
use Rattle.patterns.proofs.Tally.{tally-le, tallied-start, tallied-next, tabled}
use Rattle.patterns.proofs.tallied.Goals as goal

pub overflow_cast-end : goal.overflow_cast-end
overflow_cast-end c = omega (arith, c.pairs.ensures, pairs-six c.args.n c.requires)

pub overflow_shl-end : goal.overflow_shl-end
overflow_shl-end c = omega (arith, c.pairs.ensures, pairs-six c.args.n c.requires)

pub loop-p-init : goal.loop-p-init
loop-p-init c =
    let n = c.args.n in
    let end = ap (λ (k : ℕ). 1 * 2 ^ k % 2 ^ 32) c.pairs.ensures ∙ one_bit (pairs n) (omega (arith, pairs-six n c.requires)) in
    (refl, tallied-start (left n) 7, end)

pub offset_bounds-counts-s : goal.offset_bounds-counts-s
offset_bounds-counts-s c = omega (arith, c.survivors-s.ensures, left_le c.args.n c.loop-p.p)

pub bounds-counts-s : goal.bounds-counts-s
bounds-counts-s c = omega (arith, c.survivors-s.ensures, left_le c.args.n c.loop-p.p)

pub overflow_add-counts : goal.overflow_add-counts
overflow_add-counts c =
    let at = c.loop-p in
    let n = c.args.n in
    omega (arith, at.invariant.1 c.survivors-s.result, tally-le (left n) at.p c.survivors-s.result)

pub bounds-counts-s-in-loop-p : goal.bounds-counts-s-in-loop-p
bounds-counts-s-in-loop-p c = omega (arith, c.survivors-s.ensures, left_le c.args.n c.loop-p.p)

pub loop-p-preserved : goal.loop-p-preserved
loop-p-preserved c =
    let at = c.loop-p in
    let n = c.args.n in
    let s = c.survivors-s in
    let room : s.result < length at.counts = omega (arith, at.invariant.0, s.ensures, left_le n at.p) in (
      rw length-set at.invariant.0,
      tallied-next (left n) at.counts at.p s.result s.ensures room at.invariant.1,
      at.invariant.2,
    )

pub returns : goal.returns
returns c =
    let at = c.loop-p in
    let n = c.args.n in
    let all : at.p ≡ 2 ^ pairs n = omega (arith, at.invariant.2) in
    tabled n at.counts at.invariant.0 (rw all at at.invariant.1)
