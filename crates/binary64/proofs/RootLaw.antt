-- `root_units` at w * 2 ^ h * 2 ^ h, for a w of 105 or 106 binary digits, is the whole number nearest to √w, times 2 ^ h. Assumes nothing.
use mathlib.Core.Path.{◌≡◌, refl, sym, ap, ◌∙◌, subst}
use Prim.Native.Nat.{ℕ, suc, ◌+◌, ◌-◌, ◌*◌, ◌/◌, ◌^◌, ◌≤◌, ◌<◌, compare, Ordering}
use native.Mathlib.Nat.{le_trans, le_of_eq, le_antisymm, lt_of_lt_of_le, lt_of_not-le, not-le_of_lt, mul-pos, mul-le-mul_right}
use native.Mathlib.Nat.{lt_of_mul-lt-mul_right, eq_of_mul-eq-mul_right, mul-div_cancel}
use native.Mathlib.Numerals.{add-one}
use native.Mathlib.Omega.{arith}
use mathlib.Core.Bool.{false, not}
use lib.Dec.{T, is_le, compare_is_eq, eqb, leb→le, nleb→lt, eqb→eq, eqb_refl}
use lib.Arith.{lt_of_le-ne}
use lib.Pow.{pow-add, pow_pos, pow_mono, shl_lt}
use lib.Ieee.{Float, binary64, size, nearest, units}
use lib.Ieee.Digits.{size-lt, size-le}
use Rattle.binary64.specs.Root.{floor_root, root_units}
use Rattle.binary64.specs.Held.{Nearest}
use Rattle.binary64.proofs.Squares.{Floored, sq-lt, nearest-unique, nearest-low, nearest-high, no_tie}
use Rattle.binary64.proofs.Floor.{floored}

-- ---- what `compare` says
abbrev pub Cmp : Ordering → ℕ → ℕ → Type 0
Cmp Ordering.lt a b = a < b
Cmp Ordering.eq a b = a ≡ b
Cmp Ordering.gt a b = b < a

pub cmp : (a b : ℕ) → Cmp (compare a b) a b
cmp a b = go (compare a b) (leb→le a b) (nleb→lt a b) (eqb→eq a b) (λ (e : a ≡ b). subst (λ (x : ℕ). T (eqb a x)) e (eqb_refl a))
  where
    go : (o : Ordering) → (T (is_le o) → a ≤ b) → (T (not (is_le o)) → b < a) → (T (compare_is_eq o) → a ≡ b) → (a ≡ b → T (compare_is_eq o)) → Cmp o a b
    go Ordering.lt h k e n = lt_of_le-ne (h tt) n
    go Ordering.eq h k e n = e tt
    go Ordering.gt h k e n = k tt

-- ---- the digit count
size-gt : (n j : ℕ) → 2 ^ j ≤ n → j < size n
size-gt n j h = lt_of_not-le (λ (g : size n ≤ j). not-le_of_lt (lt_of_lt_of_le (size-lt n) (pow_mono g)) h)

pub size_is : (n j : ℕ) → 2 ^ j ≤ n → n < 2 ^ suc j → size n ≡ suc j
size_is n j lo hi = le_antisymm (size-le n (suc j) hi) (size-gt n j lo)

-- ---- the choice between q and the next, with u for 2 ^ k * 2 ^ k
pick : (w q r u : ℕ) (o : Ordering) → 0 < u → 0 < q → Floored w q → Nearest w r
    → Cmp o (4 * (w * u)) ((2 * q + 1) * (2 * q + 1) * u) → nearest q o ≡ r
pick w q r u o p z f n = go o
  where
    go : (o : Ordering) → Cmp o (4 * (w * u)) ((2 * q + 1) * (2 * q + 1) * u) → nearest q o ≡ r
    go Ordering.lt c = nearest-unique w q r (nearest-low w q z f (lt_of_mul-lt-mul_right u (omega arith))) n
    go Ordering.eq c = absurd (no_tie w q (eq_of_mul-eq-mul_right u p (4 * w) ((2 * q + 1) * (2 * q + 1)) (omega arith)))
    go Ordering.gt c = sym (add-one q) ∙ nearest-unique w (q + 1) r (nearest-high w q f (lt_of_mul-lt-mul_right u (omega arith))) n

-- `root_units` with the count k of dropped digits, and then the kept digits q, as variables
abbrev from : (n k q : ℕ) → Float
from n k q = units binary64 false (nearest q (compare (4 * n) ((2 * q + 1) * (2 * q + 1) * (2 ^ k * 2 ^ k)))) k

root_is : (n : ℕ) → let k = (size n + 1) / 2 - 53 in root_units n ≡ from n k (floor_root (n / (2 ^ k * 2 ^ k)))
unfolding root_units
root_is n = refl

-- w has 105 or 106 binary digits, so w * 2 ^ h * 2 ^ h has 105 + 2 * h or 106 + 2 * h, and its root drops h
dropped : (w h : ℕ) → 2 ^ 104 ≤ w → w < 2 ^ 106 → (size (w * (2 ^ h * 2 ^ h)) + 1) / 2 - 53 ≡ h
dropped w h lo hi =
    let e : 2 ^ h * 2 ^ h ≡ 2 ^ (h + h) = sym (pow-add 2 h h) in
    let n = w * (2 ^ h * 2 ^ h) in
    let a : 2 ^ (104 + (h + h)) ≤ n = le_trans (le_of_eq (pow-add 2 104 (h + h) ∙ ap (λ (x : ℕ). 2 ^ 104 * x) (sym e)))
    (mul-le-mul_right (2 ^ h * 2 ^ h) lo) in
    let b : n < 2 ^ (106 + (h + h)) = subst (λ (x : ℕ). w * x < 2 ^ (106 + (h + h))) (sym e) (shl_lt 106 (h + h) hi) in
    count (size n) h (size-gt n (104 + (h + h)) a) (size-le n (106 + (h + h)) b)
  where
    count : (z h : ℕ) → 104 + (h + h) < z → z ≤ 106 + (h + h) → (z + 1) / 2 - 53 ≡ h
    count z h a b = omega arith

positive : (w q : ℕ) → 2 ^ 104 ≤ w → w < (q + 1) * (q + 1) → 0 < q
positive w q a b = let h : 1 < q + 1 = sq-lt 1 (q + 1) (omega arith) in omega arith

pub root-law : (w h r : ℕ) → 2 ^ 104 ≤ w → w < 2 ^ 106 → Nearest w r → root_units (w * (2 ^ h * 2 ^ h)) ≡ units binary64 false r h
root-law w h r lo hi near =
    let u = 2 ^ h * 2 ^ h in
    let p : 0 < u = mul-pos (pow_pos h) (pow_pos h) in
    let q = floor_root w in
    let f : Floored w q = floored w in
    root_is (w * u)
    ∙ ap (λ (k : ℕ). from (w * u) k (floor_root (w * u / (2 ^ k * 2 ^ k)))) (dropped w h lo hi)
    ∙ ap (λ (x : ℕ). from (w * u) h (floor_root x)) (mul-div_cancel w p)
    ∙ ap (λ (x : ℕ). units binary64 false x h) (pick w q r u (compare (4 * (w * u)) ((2 * q + 1) * (2 * q + 1) * u)) p (positive w q lo f.1) f near
    (cmp (4 * (w * u)) ((2 * q + 1) * (2 * q + 1) * u)))
