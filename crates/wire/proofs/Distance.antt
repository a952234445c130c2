-- Distances of whole numbers by sign and size, and the two bounds that say that n is nearest to a / c, a half up. Assumes nothing.
use mathlib.Core.Path.{◌≡◌, refl, sym, ap, ◌∙◌}
use mathlib.Core.Bool.{Bool, true, false, cond, beq}
use mathlib.Core.Logic.{inl, inr}
use Prim.Native.Nat.{ℕ, zero, suc, ◌+◌, ◌-◌, ◌*◌, ◌%◌, ◌≤◌, ◌<◌}
use native.Mathlib.Nat.{le_antisymm, mod-lt, div-add-mod', mul-le-mul_right, zero-mul, zero-add, add-zero, div-eq_of_lt}
use native.Mathlib.Omega.{arith}
use lib.Dec.{ltb}
use lib.IntN.{pos, negsuc, neg_ℤ, nat_abs, ◌-ℤ◌, ◌*ℤ◌, sub_ℕ}
use borrow.Author.Tests.{ltb-true, ltb-false}
use Rattle.binary64.proofs.Nearer.{either}
use Rattle.wire.specs.Nearest.{signed, half_up, nearest}

-- the distance of two sizes: of the two cut differences one is zero
abbrev pub gap : ℕ → ℕ → ℕ
gap p q = p - q + (q - p)

sub-size : (p q : ℕ) → nat_abs (sub_ℕ p q) ≡ gap p q
sub-size p q = go (ltb p q) (ltb-true p q) (ltb-false p q)
  where
    go : (t : Bool) → (t ≡ true → p < q) → (t ≡ false → q ≤ p) → nat_abs (cond t (negsuc (q - suc p)) (pos (p - q))) ≡ gap p q
    go true l g = omega (arith, l refl)
    go false l g = omega (arith, g refl)

-- ---- two numbers by sign and size
pub size : (s : Bool) (n : ℕ) → nat_abs (signed s n) ≡ n
size false n = refl
size true zero = refl
size true (suc n) = refl

from_zero : (q : ℕ) → gap 0 q ≡ q
from_zero q = omega arith

flip : (p q : ℕ) → gap p q ≡ gap q p
flip p q = omega arith

pub apart : (s t : Bool) (p q : ℕ) → nat_abs (signed s p -ℤ signed t q) ≡ cond (beq s t) (gap p q) (p + q)
apart false false p zero = omega arith
apart false false p (suc q) = sub-size p (suc q)
apart false true p zero = refl
apart false true p (suc q) = refl
apart true false zero zero = refl
apart true false zero (suc q) = sub-size 0 (suc q) ∙ from_zero (suc q) ∙ sym (zero-add (suc q))
apart true false (suc p) zero = sub-size 0 (suc p) ∙ from_zero (suc p) ∙ sym (add-zero (suc p))
apart true false (suc p) (suc q) = omega arith
apart true true zero zero = refl
apart true true zero (suc q) = zero-add (suc q) ∙ sym (from_zero (suc q))
apart true true (suc p) zero = sub-size 0 (suc p) ∙ flip 0 (suc p)
apart true true (suc p) (suc q) = sub-size (suc q) (suc p) ∙ flip (suc q) (suc p)

pub times : (s : Bool) (n c : ℕ) → signed s n *ℤ pos c ≡ signed s (n * c)
times false n c = refl
times true zero c = ap (λ (x : ℕ). pos x) (zero-mul c) ∙ ap (λ (x : ℕ). neg_ℤ (pos x)) (sym (zero-mul c))
times true (suc n) c = refl

pub nearest-signed : (s : Bool) (a c : ℕ) → 0 < c → nearest (signed s a) c ≡ signed s (half_up a c)
unfolding nearest
nearest-signed false a c p = refl
nearest-signed true zero c p = ap (λ (x : ℕ). pos x) (none c p) ∙ ap (λ (x : ℕ). neg_ℤ (pos x)) (sym (none c p))
  where
    none : (c : ℕ) → 0 < c → half_up 0 c ≡ 0
    none c p = div-eq_of_lt (omega arith)
nearest-signed true (suc a) c p = refl

-- ---- the bounds
pub record Rounded (a c n : ℕ) : Type 0 where
  pub low : 2 * a < 2 * (n * c) + c
  pub high : 2 * (n * c) ≤ 2 * a + c

pub rounded : (a c : ℕ) → 0 < c → Rounded a c (half_up a c)
rounded a c p =
    let q = half_up a c in
    let r = (2 * a + c) % (2 * c) in
    let z : 0 < 2 * c = omega arith in
    let e : q * (2 * c) + r ≡ 2 * a + c = div-add-mod' (2 * a + c) (2 * c) in
    let l : r < 2 * c = mod-lt (2 * a + c) z in
    record { low = omega arith; high = omega arith }

not-above : (a c n k : ℕ) → Rounded a c n → Rounded a c k → n ≤ k
not-above a c n k r t = elim (either n k) [
  | inl l ↦ l
  | inr l ↦ let g : suc k * c ≤ n * c = mul-le-mul_right c l in let x = r.high in let y = t.low in absurd (omega arith)
]

pub only : (a c n : ℕ) → 0 < c → Rounded a c n → n ≡ half_up a c
only a c n p r = le_antisymm (not-above a c n (half_up a c) r (rounded a c p)) (not-above a c (half_up a c) n (rounded a c p) r)
