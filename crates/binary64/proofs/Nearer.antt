-- What `root-law` gives is the nearest: in units, with r * 2 ^ h for the root's value and n = w * 2 ^ h * 2 ^ h, √n lies strictly nearer to r * 2 ^ h
-- than to any other number m * 2 ^ j that a binary64 holds. As 2 * √n < a + b is 4 * n < (a + b) * (a + b), no root is written. Assumes nothing.
use mathlib.Core.Path.{◌≡◌, sym, ap, ◌∙◌, subst}
use mathlib.Core.Logic.{◌⊎◌, inl, inr}
use mathlib.Core.Bool.{Bool, true, false, not}
use Prim.Native.Nat.{ℕ, ◌+◌, ◌-◌, ◌*◌, ◌^◌, ◌≤◌, ◌<◌}
use native.Mathlib.Nat.{le_trans, le_of_eq, lt_of_lt_of_le, lt_of_le_of_lt, lt_irrefl, mul-pos, mul_assoc, mul-mul-mul_comm, mul-le-mul}
use native.Mathlib.Nat.{mul-le-mul_right, mul-lt-mul_of_pos_right, lt_of_mul-lt-mul_right, add-mul, eq-or-lt_of_le}
use native.Mathlib.Omega.{arith}
use lib.Dec.{T, leb, leb→le, nleb→lt}
use lib.Pow.{pow-add, pow_pos, pow_mono, shl_lt}
use Rattle.binary64.specs.Held.{Nearest}

-- which grid m * 2 ^ j lies on, beside 2 ^ h
pub either : (h j : ℕ) → (h ≤ j) ⊎ (j < h)
either h j = go (leb h j) (leb→le h j) (nleb→lt h j)
  where
    go : (b : Bool) → (T b → h ≤ j) → (T (not b) → j < h) → (h ≤ j) ⊎ (j < h)
    go true p q = inl (p tt)
    go false p q = inr (q tt)

pub coarse : (m j h : ℕ) → h ≤ j → m * 2 ^ j ≡ m * 2 ^ (j - h) * 2 ^ h
coarse m j h l = ap (λ (x : ℕ). m * x) (ap (λ (x : ℕ). 2 ^ x) (sum j h l) ∙ pow-add 2 (j - h) h) ∙ sym (mul_assoc m (2 ^ (j - h)) (2 ^ h))
  where
    sum : (j h : ℕ) → h ≤ j → j ≡ j - h + h
    sum j h l = omega arith

pub fine : (m j h : ℕ) → m < 2 ^ 53 → j < h → m * 2 ^ j < 2 ^ 52 * 2 ^ h
fine m j h a l = lt_of_lt_of_le (shl_lt 53 j a) (le_trans (pow_mono {i = 53 + j} {j = 52 + h} (omega arith)) (le_of_eq (pow-add 2 52 h)))

-- squares of a multiple c of P
over : (s c P w : ℕ) → 0 < P → c * P ≤ s → 4 * w < c * c → 4 * (w * (P * P)) < s * s
over s c P w p l h =
    lt_of_le_of_lt (le_of_eq (sym (mul_assoc 4 w (P * P))))
    (lt_of_lt_of_le (mul-lt-mul_of_pos_right h (mul-pos p p)) (le_trans (le_of_eq (sym (mul-mul-mul_comm c P c P))) (mul-le-mul l l)))

under : (s c P w : ℕ) → 0 < P → s ≤ c * P → c * c < 4 * w → s * s < 4 * (w * (P * P))
under s c P w p l h =
    lt_of_le_of_lt (le_trans (mul-le-mul l l) (le_of_eq (mul-mul-mul_comm c P c P)))
    (lt_of_lt_of_le (mul-lt-mul_of_pos_right h (mul-pos p p)) (le_of_eq (mul_assoc 4 w (P * P))))

under-strict : (s c P w : ℕ) → s < c * P → c * c ≤ 4 * w → s * s < 4 * (w * (P * P))
under-strict s c P w l h =
    let up : s + 1 ≤ c * P = omega arith in
    let sq : (s + 1) * (s + 1) ≤ c * P * (c * P) = mul-le-mul up up in
    lt_of_lt_of_le (omega arith) (le_trans sq (le_trans (le_of_eq (mul-mul-mul_comm c P c P))
    (le_trans (mul-le-mul_right (P * P) h) (le_of_eq (mul_assoc 4 w (P * P))))))

module _ (w h r m j : ℕ) (near : Nearest w r) (lo : 2 ^ 52 ≤ r) (big : 2 ^ 104 ≤ w) (held : m < 2 ^ 53) where
  pub nearer-above : r * 2 ^ h < m * 2 ^ j → 4 * (w * (2 ^ h * 2 ^ h)) < (r * 2 ^ h + m * 2 ^ j) * (r * 2 ^ h + m * 2 ^ j)
  nearer-above l = elim (either h j) [
    | inl g ↦
        let y = m * 2 ^ (j - h) in
        let e : m * 2 ^ j ≡ y * 2 ^ h = coarse m j h g in
        let ry : r < y = lt_of_mul-lt-mul_right (2 ^ h) (subst (λ (x : ℕ). r * 2 ^ h < x) e l) in
        let c : (2 * r + 1) * 2 ^ h ≤ (r + y) * 2 ^ h = mul-le-mul_right (2 ^ h) (omega arith) in
        over (r * 2 ^ h + m * 2 ^ j) (2 * r + 1) (2 ^ h) w (pow_pos h)
        (le_trans c (le_of_eq (add-mul r y (2 ^ h) ∙ ap (λ (x : ℕ). r * 2 ^ h + x) (sym e)))) (omega arith)
    | inr g ↦ absurd (lt_irrefl (r * 2 ^ h) (lt_of_lt_of_le l (le_trans (below g) (mul-le-mul_right (2 ^ h) lo))))
  ]
    where
      below : j < h → m * 2 ^ j ≤ 2 ^ 52 * 2 ^ h
      below g = let f = fine m j h held g in omega arith

  pub nearer-below : m * 2 ^ j < r * 2 ^ h → (r * 2 ^ h + m * 2 ^ j) * (r * 2 ^ h + m * 2 ^ j) < 4 * (w * (2 ^ h * 2 ^ h))
  nearer-below l = elim (either h j) [
    | inl g ↦
        let y = m * 2 ^ (j - h) in
        let e : m * 2 ^ j ≡ y * 2 ^ h = coarse m j h g in
        let ry : y < r = lt_of_mul-lt-mul_right (2 ^ h) (subst (λ (x : ℕ). x < r * 2 ^ h) e l) in
        let c : (r + y) * 2 ^ h ≤ (2 * (r - 1) + 1) * 2 ^ h = mul-le-mul_right (2 ^ h) (omega arith) in
        under (r * 2 ^ h + m * 2 ^ j) (2 * (r - 1) + 1) (2 ^ h) w (pow_pos h)
        (le_trans (le_of_eq (ap (λ (x : ℕ). r * 2 ^ h + x) e ∙ sym (add-mul r y (2 ^ h)))) c) low
    | inr g ↦ elim (eq-or-lt_of_le lo) [
      | inl e ↦
          let c : r * 2 ^ h + m * 2 ^ j < 2 ^ 53 * 2 ^ h = half g e in
          under-strict (r * 2 ^ h + m * 2 ^ j) (2 ^ 53) (2 ^ h) w c (omega arith)
      | inr k ↦
          let c : (r + 2 ^ 52) * 2 ^ h ≤ (2 * (r - 1) + 1) * 2 ^ h = mul-le-mul_right (2 ^ h) (omega arith) in
          under (r * 2 ^ h + m * 2 ^ j) (2 * (r - 1) + 1) (2 ^ h) w (pow_pos h) (le_trans (step g) c) low
    ]
  ]
    where
      low : (2 * (r - 1) + 1) * (2 * (r - 1) + 1) < 4 * w
      low =
          let one : r - 1 + 1 ≡ r = omega arith in
          let sq : (r - 1 + 1) * (r - 1 + 1) ≡ r * r = ap (λ (x : ℕ). x * x) one in
          omega arith

      step : j < h → r * 2 ^ h + m * 2 ^ j ≤ (r + 2 ^ 52) * 2 ^ h
      step g = let f = fine m j h held g in omega (arith, add-mul r (2 ^ 52) (2 ^ h))

      half : j < h → 2 ^ 52 ≡ r → r * 2 ^ h + m * 2 ^ j < 2 ^ 53 * 2 ^ h
      half g e = let f = fine m j h held g in let x : 2 ^ 52 * 2 ^ h ≡ r * 2 ^ h = ap (λ (y : ℕ). y * 2 ^ h) e in omega arith
