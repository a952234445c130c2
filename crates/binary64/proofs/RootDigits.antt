-- The digits that a root keeps: n = m * 2 ^ p is w * 2 ^ h * 2 ^ h for a w of 105 or 106 binary digits, and the whole number nearest to √w has 53, or
-- is 2 ^ 53. Assumes nothing.
use mathlib.Core.Path.{◌≡◌, sym, ap, ◌∙◌, subst}
use mathlib.Core.Logic.{inl, inr}
use Prim.Native.Nat.{ℕ, suc, ◌+◌, ◌-◌, ◌*◌, ◌/◌, ◌^◌, ◌≤◌, ◌<◌}
use native.Mathlib.Nat.{le_trans, le_of_eq, lt_of_lt_of_le, lt_of_not-le, not-le_of_lt, mul_assoc, mul-le-mul, mul-le-mul_right}
use native.Mathlib.Omega.{arith}
use lib.Pow.{pow-add, pow_mono, shl_lt}
use lib.Ieee.{size}
use lib.Ieee.Digits.{size-lt, size_reaches, size-le}
use Rattle.binary64.specs.Root.{floor_root}
use Rattle.binary64.specs.Held.{Nearest}
use Rattle.binary64.proofs.Squares.{Floored, sq-lt}
use Rattle.binary64.proofs.Floor.{floored}
use Rattle.binary64.proofs.Nearer.{either}

pub record Cut (n : ℕ) : Type 0 where
  pub w : ℕ
  pub h : ℕ
  pub lo : 2 ^ 104 ≤ w
  pub hi : w < 2 ^ 106
  pub few : h ≤ 2000
  pub is : n ≡ w * (2 ^ h * 2 ^ h)

pub cut_of : (m p : ℕ) → 0 < m → m < 2 ^ 53 → 1074 ≤ p → p < 3172 → Cut (m * 2 ^ p)
cut_of m p z s l u =
    let e : size m ≡ suc (size m - 1) = omega (arith, some) in
    go (size m - 1) (size_reaches m (size m - 1) (omega arith)) (subst (λ (x : ℕ). m < 2 ^ x) e (size-lt m)) (omega (arith, size-le m 53 s))
  where
    some : 0 < size m
    some = lt_of_not-le (λ (g : size m ≤ 0). not-le_of_lt (size-lt m) (le_trans (pow_mono g) z))

    -- m has d + 1 binary digits
    go : (d : ℕ) → 2 ^ d ≤ m → m < 2 ^ suc d → d ≤ 52 → Cut (m * 2 ^ p)
    go d a b c =
        let h = (d + p - 104) / 2 in
        let j = p - (h + h) in
        let sum : p ≡ j + (h + h) = omega arith in
        record {
          w = m * 2 ^ j;
          h = h;
          lo = le_trans (pow_mono {i = 104} {j = d + j} (omega arith)) (le_trans (le_of_eq (pow-add 2 d j)) (mul-le-mul_right (2 ^ j) a));
          hi = lt_of_lt_of_le (shl_lt (suc d) j b) (pow_mono {i = suc d + j} {j = 106} (omega arith));
          few = omega arith;
          is = ap (λ (x : ℕ). m * x) (ap (λ (x : ℕ). 2 ^ x) sum ∙ pow-add 2 j (h + h) ∙ ap (λ (x : ℕ). 2 ^ j * x) (pow-add 2 h h))
              ∙ sym (mul_assoc m (2 ^ j) (2 ^ h * 2 ^ h));
        }

-- ---- the whole number nearest to √w
pub nearest-of : (w : ℕ) → 2 ^ 104 ≤ w → (r : ℕ) × Nearest w r
nearest-of w lo =
    let q = floor_root w in
    let f : Floored w q = floored w in
    let p : 1 < q + 1 = sq-lt 1 (q + 1) (omega arith) in
    elim (either w (q * q + q)) [
      | inl g ↦ (q, (omega arith, g))
      | inr g ↦ (q + 1, (omega arith, omega arith))
    ]

pub least : (w r : ℕ) → 2 ^ 104 ≤ w → Nearest w r → 2 ^ 52 ≤ r
least w r lo near = elim (either (2 ^ 52) r) [
  | inl g ↦ g
  | inr g ↦ let l : r ≤ 2 ^ 52 - 1 = omega arith in absurd (omega (arith, mul-le-mul l l))
]

pub most : (w r : ℕ) → w < 2 ^ 106 → Nearest w r → r ≤ 2 ^ 53
most w r hi near = elim (either r (2 ^ 53)) [
  | inl g ↦ g
  | inr g ↦
      let l : 2 ^ 53 ≤ r - 1 = omega arith in
      let s : r * r ≡ (r - 1 + 1) * (r - 1 + 1) = ap (λ (x : ℕ). x * x) (omega arith) in
      absurd (omega (arith, mul-le-mul l l))
]
