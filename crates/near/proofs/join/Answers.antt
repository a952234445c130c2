-- `near::join` meets its contract. Each return is a case of the step that joins the parts. Assumes nothing.
use Rattle.std.proofs.Common.{◌≡◌, ℕ, ◌+◌, ◌%◌, ◌^◌, false, refl, ap, ◌∙◌}
use borrow.Author.Tests.{not-true, not-false}
use Rattle.near.specs.declared.Held.{Held}
use Rattle.near.specs.Near.{step}
use Rattle.near.specs.Parts.{joined}
use Rattle.near.proofs.Steps.{first, closer-one, kept}
use Rattle.near.proofs.join.Goals as goal

module _ (h s : Held) (m p : ℕ) (w : p ≡ (m + s.place) % 2 ^ 64) where
  placed : {x : Held} → x ≡ step s.found p s.distance h → x ≡ joined h m s
  unfolding joined
  placed e = e ∙ ap (λ (j : ℕ). step s.found j s.distance h) w

none-there : (h s : Held) (m : ℕ) → s.found ≡ false → h ≡ joined h m s
unfolding joined step
none-there h s m e = rw e

pub returns-then-not-second : goal.returns-then-not-second
returns-then-not-second c = none-there _ _ _ (not-true _ c.if-not-second.true)

pub returns-then-not-first : goal.returns-then-not-first
returns-then-not-first c =
    let args = c.args in
    placed args.first args.second args.base _ c.wrapping_add_u64.ensures.value
    (first _ _ _ _ args.first (not-false _ c.if-not-second.false) refl (not-true _ c.if-not-first.true))

pub returns-then-second-first : goal.returns-then-second-first
returns-then-second-first c =
    let args = c.args in
    placed args.first args.second args.base _ c.wrapping_add_u64.ensures.value
    (closer-one _ _ _ _ args.first (not-false _ c.if-not-second.false) refl (not-false _ c.if-not-first.false) c.if-second-first.true)

pub returns : goal.returns
returns c =
    let args = c.args in
    placed args.first args.second args.base _ c.wrapping_add_u64.ensures.value
    (kept _ _ _ _ args.first (not-false _ c.if-not-second.false) refl (not-false _ c.if-not-first.false) c.if-second-first.false)
