-- `patterns::row` meets its contract. The invariant: the row has the bits of those below b (`mask_of`). Assumes nothing.
use mathlib.Core.Path.{◌≡◌, refl, sym, ap, ◌∙◌}
use Prim.Native.Nat.{ℕ, ◌+◌, ◌*◌, ◌^◌, ◌%◌}
use native.Mathlib.Omega.{arith}
use Rattle.sets.specs.Mask.{has, mask_of}
use Rattle.patterns.specs.Patterns.{clash}
use Rattle.patterns.proofs.Rows.{mask-adds, mask-skips, mask-room, row_is}
use Rattle.patterns.proofs.row.Goals as goal
use Rattle.patterns.proofs.row.Goals.{then-clash, else-clash}

pub loop-b-init : goal.loop-b-init
unfolding mask_of
loop-b-init c = refl

pub overflow_add-row : goal.overflow_add-row
overflow_add-row c =
    let s = c.args in
    let at = c.loop-b in
    omega (arith, at.invariant, mask-room (clash s.pattern s.a) at.b (omega arith))

pub loop-b-preserved : goal.loop-b-preserved
loop-b-preserved c =
    let s = c.args in
    let at = c.loop-b in
    let S = clash s.pattern s.a in
    let e = sym c.clash.ensures in
    elim c.if-clash.branch [
      | then-clash w ↦
          w.row-is ∙ ap (λ (x : ℕ). x + 1 * 2 ^ at.b % 2 ^ 32) at.invariant ∙ mask-adds S at.b (omega arith) (e ∙ w.if-clash.true)
      | else-clash w ↦ w.row-is ∙ at.invariant ∙ mask-skips S at.b (e ∙ w.if-clash.false)
    ]

pub returns : goal.returns
returns c =
    let s = c.args in
    let at = c.loop-b in
    let e : at.b ≡ s.n = omega arith in
    ap has (at.invariant ∙ ap (mask_of (clash s.pattern s.a)) e) ∙ row_is s.n s.pattern s.a (omega arith)
