-- `sets::members` meets its contract. The invariant: the members below i are listed and k counts them, so that k is at most i (`count-le`), which is
-- below 32. Assumes nothing.
use mathlib.Core.Path.{◌≡◌, refl, sym, ap, ap₂, ◌∙◌}
use mathlib.Core.List.{List}
use Prim.Native.Nat.{ℕ, suc, ◌+◌, ◌≤◌, ◌<◌}
use native.Mathlib.Numerals.{add-one}
use native.Mathlib.Omega.{arith}
use lib.ListN.{set}
use Rattle.sets.specs.Sets.{Subset, count, members_to}
use Rattle.sets.specs.Mask.{has}
use Rattle.sets.proofs.Counting.{count-le}
use Rattle.sets.proofs.Listed.{adds, skips}
use Rattle.sets.proofs.members.Goals.{then-has, else-has}
use Rattle.sets.proofs.members.Goals as goal

-- the invariant of the next turn, where the index is counted by `suc`
turned : (S : Subset) (index₀ : List ℕ) (i n : ℕ) {k : ℕ} {index : List ℕ} → i < n → k ≡ count S (suc i) → index ≡ members_to S index₀ (suc i)
    → (i + 1 ≤ n) × (k ≡ count S (i + 1)) × (index ≡ members_to S index₀ (i + 1))
turned S index₀ i n l a b = (omega arith, rw add-one a, rw add-one b)

pub loop-i-init : goal.loop-i-init
unfolding count members_to
loop-i-init c = (omega arith, refl, refl)

pub offset_bounds-index-k : goal.offset_bounds-index-k
offset_bounds-index-k c = let at = c.loop-i in
    omega (arith, at.invariant.1, count-le (has c.args.mask) at.i)

pub bounds-index-k : goal.bounds-index-k
bounds-index-k c = let at = c.loop-i in
    omega (arith, at.invariant.1, count-le (has c.args.mask) at.i)

pub overflow_add-k : goal.overflow_add-k
overflow_add-k c = let at = c.loop-i in
    omega (arith, at.invariant.1, count-le (has c.args.mask) at.i)

pub loop-i-preserved : goal.loop-i-preserved
loop-i-preserved c =
    let at = c.loop-i in
    let S = has c.args.mask in
    let index₀ = c.args.index.now in
    elim c.if-has.branch [
      | then-has w ↦ let step = adds S index₀ at.i (sym c.has.ensures ∙ w.if-has.true) in
          turned S index₀ at.i c.args.n (omega arith)
          (w.k-is ∙ ap (λ k. k + 1) at.invariant.1 ∙ add-one (count S at.i) ∙ sym step.0)
          (w.index-is ∙ ap₂ (λ v k. set v k at.i) at.invariant.2 at.invariant.1 ∙ sym step.1)
      | else-has w ↦ let step = skips S index₀ at.i (sym c.has.ensures ∙ w.if-has.false) in
          turned S index₀ at.i c.args.n (omega arith) (w.k-is ∙ at.invariant.1 ∙ sym step.0)
          (w.index-is ∙ at.invariant.2 ∙ sym step.1)
    ]

pub returns : goal.returns
returns c =
    let e : c.loop-i.i ≡ c.args.n = omega arith in
    (rw e at c.loop-i.invariant.1, rw e at c.loop-i.invariant.2)
