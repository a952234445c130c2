-- How far two whole numbers are apart: the same from either, and nothing from a number to itself. Assumes nothing.
use mathlib.Core.Path.{◌≡◌, refl, sym, ap, ◌∙◌}
use Prim.Native.Nat.{zero, suc}
use lib.IntN.{ℤ, pos, negsuc, nat_abs, neg_ℤ, ◌+ℤ◌, ◌-ℤ◌, neg_ℤ-+ℤ, neg_ℤ-neg_ℤ, +ℤ_comm, +ℤ_invr}
use Rattle.screen.specs.Pair.{gap}

size-neg : (a : ℤ) → nat_abs (neg_ℤ a) ≡ nat_abs a
size-neg (pos zero) = refl
size-neg (pos (suc n)) = refl
size-neg (negsuc n) = refl

pub gap-sym : (a b : ℤ) → gap a b ≡ gap b a
gap-sym a b = sym (size-neg (a -ℤ b)) ∙ ap nat_abs (neg_ℤ-+ℤ a (neg_ℤ b) ∙ ap (λ (x : ℤ). neg_ℤ a +ℤ x) (neg_ℤ-neg_ℤ b) ∙ +ℤ_comm (neg_ℤ a) b)

pub gap-self : (a : ℤ) → gap a a ≡ 0
gap-self a = ap nat_abs (+ℤ_invr a)
