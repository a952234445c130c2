-- The test of a root by what it is the root of: root x ≤ limit exactly where x ≤ last, where `last` and the next binary64 above it lie on either side
-- of the square of the middle between `limit` and the next binary64 above that. Assumes nothing.
use mathlib.Core.Path.{◌≡◌, refl, sym, ap, ◌∙◌, subst}
use mathlib.Core.Logic.{◌⊎◌, inl, inr}
use mathlib.Core.Bool.{Bool, true, false}
use Prim.Native.Nat.{ℕ, ◌+◌, ◌-◌, ◌*◌, ◌^◌, ◌≤◌, ◌<◌, zero-le}
use native.Mathlib.Nat.{le_trans, le_of_eq, lt_of_lt_of_le, lt_of_le_of_lt, lt_irrefl, mul-le-mul, mul-le-mul_right, lt_of_mul-lt-mul_right}
use native.Mathlib.Nat.{eq-zero-or-pos}
use native.Mathlib.Omega.{arith}
use lib.Dec.{T}
use lib.Pow.{pow_pos}
use lib.Ieee.{Float, nan, inf, fin, binary64, le}
use lib.Ieee.Scale.{finite}
use Rattle.binary64.specs.Root.{root}
use Rattle.binary64.specs.Meaning.{IsBinary64, HasUnits, Nearer}
use Rattle.binary64.proofs.Nearer.{either, coarse, fine}
use Rattle.binary64.proofs.Held.{Held, is_held}
use Rattle.binary64.proofs.Meaning.{root-nearest, root-elsewhere}
use Rattle.binary64.proofs.Units.{P, N, uo, in-units, low-enough, le→units, units→le}
use Rattle.binary64.proofs.Clear.{clear}
use Rattle.binary64.proofs.Tail.{val-units}
use Rattle.binary64.proofs.RootBounds.{value-finite}

-- ---- the next value: above c * 2 ^ h, with a c of 53 binary digits, none lies below (c + 1) * 2 ^ h
next-above : (a c h : ℕ) → Held a → 2 ^ 52 ≤ c → c * 2 ^ h < a → (c + 1) * 2 ^ h ≤ a
next-above a c h k lo l = elim (either h k.j) [
  | inl g ↦
      let y = k.m * 2 ^ (k.j - h) in
      let e : a ≡ y * 2 ^ h = k.is ∙ coarse k.m k.j h g in
      let above : c < y = lt_of_mul-lt-mul_right (2 ^ h) (subst (λ (z : ℕ). c * 2 ^ h < z) e l) in
      subst (λ (z : ℕ). (c + 1) * 2 ^ h ≤ z) (sym e) (mul-le-mul_right (2 ^ h) (omega arith))
  | inr g ↦
      let low = lt_of_le_of_lt (le_of_eq k.is) (fine k.m k.j h k.digits g) in
      absurd (lt_irrefl a (lt_of_lt_of_le low (le_trans (mul-le-mul_right (2 ^ h) lo) (omega arith))))
]

fourfold : {x y : ℕ} → x ≤ y → 4 * x ≤ 4 * y
fourfold h = omega arith

-- ---- in units: twice the middle of b * 2 ^ g and (b + 1) * 2 ^ g
abbrev ends : ℕ → ℕ → ℕ
ends b g = b * 2 ^ g + (b + 1) * 2 ^ g

-- r is nearest to the root of a * w
module _ (a r b g c h w : ℕ) where
  under : 2 ^ 52 ≤ c → ends b g * ends b g ≤ 4 * ((c + 1) * 2 ^ h * w) → Held a → Nearer (a * w) r false ((b + 1) * 2 ^ g) → r ≤ b * 2 ^ g
      → a ≤ c * 2 ^ h
  under lo past k near l = elim (either a (c * 2 ^ h)) [
    | inl y ↦ y
    | inr y ↦
        let up = fourfold (mul-le-mul_right w (next-above a c h k lo y)) in
        let some = pow_pos g in
        let s : (r + (b + 1) * 2 ^ g) * (r + (b + 1) * 2 ^ g) ≤ ends b g * ends b g = mul-le-mul (omega arith) (omega arith) in
        absurd (lt_irrefl (4 * (a * w)) (lt_of_lt_of_le (near.0 (omega arith)) (le_trans s (le_trans past up))))
  ]

  over : 2 ^ 52 ≤ b → 4 * (c * 2 ^ h * w) ≤ ends b g * ends b g → Held r → Nearer (a * w) r false (b * 2 ^ g) → a ≤ c * 2 ^ h → r ≤ b * 2 ^ g
  over lo upto k near l = elim (either r (b * 2 ^ g)) [
    | inl y ↦ y
    | inr y ↦
        let up : (b + 1) * 2 ^ g ≤ r = next-above r b g k lo y in
        let s : ends b g * ends b g ≤ (r + b * 2 ^ g) * (r + b * 2 ^ g) = mul-le-mul (omega arith) (omega arith) in
        absurd (lt_irrefl (4 * (a * w)) (lt_of_le_of_lt (le_trans (fourfold (mul-le-mul_right w l)) (le_trans upto s)) (near.1 y)))
  ]

-- ---- of floats: the limit is b * 2 ^ g units, and `last` is c * 2 ^ h
pub record Limits (limit next last : Float) : Type 0 where
  pub limit_is : IsBinary64 limit
  pub next-is : IsBinary64 next
  pub last-is : IsBinary64 last
  pub b : ℕ
  pub g : ℕ
  pub c : ℕ
  pub h : ℕ
  pub limit-units : HasUnits limit false (b * 2 ^ g)
  pub next-units : HasUnits next false ((b + 1) * 2 ^ g)
  pub last-units : HasUnits last false (c * 2 ^ h)
  pub b-full : 2 ^ 52 ≤ b
  pub c-full : 2 ^ 52 ≤ c
  pub upto : 4 * (c * 2 ^ h * 2 ^ 1074) ≤ ends b g * ends b g
  pub past : ends b g * ends b g ≤ 4 * ((c + 1) * 2 ^ h * 2 ^ 1074)

-- of values that are not negative the order is that of the units
module _ (x y : Float) (a b : ℕ) (p : IsBinary64 x) (q : IsBinary64 y) (h : HasUnits x false a) (k : HasUnits y false b) where
  to_le : a ≤ b → T (le x y)
  to_le l = let u = val-units binary64 x a p h in let v = val-units binary64 y b q k in
      units→le binary64 x y (p, value-finite x a h) (q, value-finite y b k)
      (plain (P binary64 x) (N binary64 x) (P binary64 y) (N binary64 y) a b u.0 u.1 v.0 v.1 l)
    where
      plain : (p n p' n' a b : ℕ) → p ≡ a → n ≡ 0 → p' ≡ b → n' ≡ 0 → a ≤ b → p + n' ≤ p' + n
      plain p n p' n' a b e z e' z' l = omega arith

  of_le : T (le x y) → a ≤ b
  of_le t = let u = val-units binary64 x a p h in let v = val-units binary64 y b q k in
      plain (P binary64 x) (N binary64 x) (P binary64 y) (N binary64 y) a b u.0 u.1 v.0 v.1
      (le→units binary64 x y (p, value-finite x a h) (q, value-finite y b k) t)
    where
      plain : (p n p' n' a b : ℕ) → p ≡ a → n ≡ 0 → p' ≡ b → n' ≡ 0 → p + n' ≤ p' + n → a ≤ b
      plain p n p' n' a b e z e' z' l = omega arith

same : (a b : Bool) → (T a → T b) → (T b → T a) → a ≡ b
same true true f g = refl
same true false f g = absurd (f tt)
same false true f g = absurd (g tt)
same false false f g = refl

-- infinity is at most nothing finite
beyond : (y : Float) → T (finite y) → le (inf false) y ≡ false
unfolding le
beyond nan f = absurd f
beyond (inf s) f = absurd f
beyond (fin s m e) f = refl

module _ (limit next last : Float) (K : Limits limit next last) where
  of_positive : (x : Float) (a : ℕ) → IsBinary64 x → HasUnits x false a → 0 < a → le (root x) limit ≡ le x last
  of_positive x a p u s =
      let near = (root-nearest x a p u s).0 in
      let L = K.b * 2 ^ K.g in
      let C = K.c * 2 ^ K.h in
      same (le (root x) limit) (le x last)
      (λ t. to_le x last a C p K.last-is u K.last-units
      (under a near.r K.b K.g K.c K.h (2 ^ 1074) K.c-full K.past (is_held x false a p u)
      (near.nearest next false ((K.b + 1) * 2 ^ K.g) K.next-is K.next-units)
      (of_le (root x) limit near.r L near.binary K.limit_is near.value K.limit-units t)))
      (λ t. to_le (root x) limit near.r L near.binary K.limit_is near.value K.limit-units
      (over a near.r K.b K.g K.c K.h (2 ^ 1074) K.b-full K.upto (is_held (root x) false near.r near.binary near.value)
      (near.nearest limit false L K.limit_is K.limit-units)
      (of_le x last a C p K.last-is u K.last-units t)))

  of_zero : (x : Float) → IsBinary64 x → HasUnits x false 0 → le (root x) limit ≡ le x last
  of_zero x p u =
      let l = to_le x limit 0 (K.b * 2 ^ K.g) p K.limit_is u K.limit-units zero-le in
      let t = to_le x last 0 (K.c * 2 ^ K.h) p K.last-is u K.last-units zero-le in
      same (le (root x) limit) (le x last) (λ q. t) (λ q. subst (λ (z : Float). T (le z limit)) (sym (root-elsewhere.zeros x false u)) l)

  of-clear : (x : Float) → IsBinary64 x → T (clear x) → le (root x) limit ≡ le x last
  of-clear nan p k = absurd k
  of-clear (inf true) p k = absurd k
  of-clear (inf false) p k =
      ap (λ (z : Float). le z limit) root-elsewhere.others.0
      ∙ beyond limit (value-finite limit (K.b * 2 ^ K.g) K.limit-units) ∙ sym (beyond last (value-finite last (K.c * 2 ^ K.h) K.last-units))
  of-clear (fin true m e) p k = absurd k
  of-clear (fin false m e) p k =
      let x = fin false m e in
      let a = m * uo binary64 e in
      let u : HasUnits x false a = (refl, sym (in-units binary64 m e (low-enough binary64 false m e p))) in
      elim (eq-zero-or-pos a) [ inl z ↦ of_zero x p (subst (HasUnits x false) z u) | inr s ↦ of_positive x a p u s ]

  of_none : le (root nan) limit ≡ le nan last
  unfolding le
  of_none = ap (λ (z : Float). le z limit) root-elsewhere.others.2

  -- for every x but what is negative, whose root is no number
  pub root-test : (x : Float) → IsBinary64 x → T (clear x) ⊎ (x ≡ nan) → le (root x) limit ≡ le x last
  root-test x p (inl k) = of-clear x p k
  root-test x p (inr e) = subst (λ (z : Float). le (root z) limit ≡ le z last) (sym e) of_none
