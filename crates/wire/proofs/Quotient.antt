-- A whole number divided once by the units in 1, rounded to binary64: in units of the format's smallest value its size is near w / unit, and no
-- limit is passed. Assumes nothing.
use mathlib.Core.Path.{◌≡◌, refl, sym, ap, ◌∙◌, subst}
use mathlib.Core.Bool.{Bool, true, false}
use Prim.Native.Nat.{ℕ, suc, ◌+◌, ◌-◌, ◌*◌, ◌/◌, ◌%◌, ◌^◌, ◌≤◌, ◌<◌, compare}
use native.Mathlib.Nat.{le_trans, le_of_eq, le_of_lt, lt_of_lt_of_le, lt_of_le_of_lt, mod-lt, mul-one, mul_assoc, mul_comm, mul-pos}
use native.Mathlib.Nat.{mul-le-mul, mul-le-mul_left, mul-le-mul_right, div-add-mod', div-lt_iff_lt-mul}
use native.Mathlib.Omega.{arith}
use lib.Dec.{lit<}
use lib.Pow.{pow-add, pow_pos, pow_mono}
use lib.Ieee.{Float, nan, inf, fin, binary64, up, down, unlike, size, round, div}
use lib.Ieee.Digits.{size-le}
use lib.Ieee.Fits.{down_pos, nearest-le, round_is}
use lib.Ieee.Exact.{HasValue, units_val}
use lib.Ieee.Nearest.{closest, nearest-ge, closest_mono}
use lib.Ieee.Scale.{round_same}
use borrow.Author.Tests.{ne_eqb}
use Rattle.wire.specs.Nearest.{half_up}
use Rattle.wire.proofs.Distance.{only}

-- ---- division of two whole numbers that the format holds
unlike-plus : (s : Bool) → unlike s false ≡ s
unlike-plus true = refl
unlike-plus false = refl

cross : (x y c d a b : ℕ) → x * 1 ≡ a * c → y * 1 ≡ b * d → x * d * b ≡ a * (y * c)
cross x y c d a b h k = let e : x ≡ a * c = sym (mul-one x) ∙ h in let f : y ≡ b * d = sym (mul-one y) ∙ k in rw (e, f) (omega arith)

pub divided : (x y : Float) (s : Bool) (a b : ℕ) → 0 < b → HasValue x s a 1 → HasValue y false b 1 → div binary64 x y ≡ round binary64 s a b
unfolding div
divided nan y s a b p h k = absurd h
divided (inf t) y s a b p h k = absurd h
divided (fin t m e) nan s a b p h k = absurd k
divided (fin t m e) (inf u) s a b p h k = absurd k
divided (fin t m e) (fin u n d) s a b p h k =
    let some : 0 < n * up d * down e = mul-pos (lt_of_lt_of_le (mul-pos p (down_pos d)) (le_of_eq (sym k.1 ∙ mul-one (n * up d)))) (down_pos e) in
    rw (ne_eqb n 0 (not-zero n (up d) (b * down d) (mul-pos p (down_pos d)) k.1), k.0, unlike-plus t, h.0)
    (round_same binary64 s (m * up e * down d) (n * up d * down e) a b some p (cross (m * up e) (n * up d) (down e) (down d) a b h.1 k.1))
  where
    not-zero : (n v z : ℕ) → 0 < z → n * v * 1 ≡ z → n ≡ 0 → ⊥
    not-zero n v z p e o = let g : 0 * v * 1 ≡ z = rw o at e in omega arith

-- ---- the rounded quotient
module _ (w unit n : ℕ) (p : 0 < unit) (u : unit < 2 ^ 24) (l : w ≤ n * unit) (low : n ≤ 25000) where
  abbrev k : ℕ
  k = size (w * 2 ^ 1074 / unit) - 53

  abbrev q : ℕ
  q = closest (w * 2 ^ 1074) (unit * 2 ^ k)

  under : (L M : ℕ) → 0 < L → M ≡ 32768 * L → w * L < M * unit
  under L M z e =
      let a : w ≤ 25000 * unit = le_trans l (mul-le-mul_right unit low) in
      let b : w * L ≤ 25000 * unit * L = mul-le-mul_right L a in
      let c : 0 < unit * L = mul-pos p z in
      rw e (omega arith)

  dropped : k ≤ 1036
  dropped =
      let l = under (2 ^ 1074) (2 ^ 1089) (pow_pos 1074) (pow-add 2 15 1074) in
      cut (size (w * 2 ^ 1074 / unit)) (size-le (w * 2 ^ 1074 / unit) 1089 ((div-lt_iff_lt-mul p).1 l))
    where
      cut : (z : ℕ) → z ≤ 1089 → z - 53 ≤ 1036
      cut z h = omega arith

  -- a step is far less than half a unit
  step : 2 * (unit * 2 ^ k) < 2 ^ 1074
  step =
      let a : unit * 2 ^ k ≤ 2 ^ 24 * 2 ^ 1036 = mul-le-mul (le_of_lt u) (pow_mono dropped) in
      lt_of_le_of_lt (mul-le-mul_left 2 a) (lit< tt)

  -- the result times the units is within a step of w
  near : (w * 2 ^ 1074 < q * 2 ^ k * unit + unit * 2 ^ k) × (q * 2 ^ k * unit ≤ w * 2 ^ 1074 + unit * 2 ^ k)
  near =
      let n₀ = w * 2 ^ 1074 in
      let s = unit * 2 ^ k in
      let d = n₀ / s in
      let r = n₀ % s in
      let z : 0 < s = mul-pos p (pow_pos k) in
      let same : q * 2 ^ k * unit ≡ q * s = mul_assoc q (2 ^ k) unit ∙ ap (λ (y : ℕ). q * y) (mul_comm (2 ^ k) unit) in
      let e : d * s + r ≡ n₀ = div-add-mod' n₀ s in
      let m : r < s = mod-lt n₀ z in
      let a : d * s ≤ q * s = mul-le-mul_right s (nearest-ge d (compare (r * 2) s)) in
      let b : q * s ≤ suc d * s = mul-le-mul_right s (nearest-le d (compare (r * 2) s)) in
      bounds n₀ s d r q same e m a b
    where
      bounds : (n s d r q : ℕ) {v : ℕ} → v ≡ q * s → d * s + r ≡ n → r < s → d * s ≤ q * s → q * s ≤ suc d * s → (n < v + s) × (v ≤ n + s)
      bounds n s d r q same e m a b = (omega arith, omega arith)

  -- no whole limit is passed: the format holds it
  pub limited : q * 2 ^ k ≤ n * 2 ^ 1074
  limited =
      let t = 2 ^ (1074 - k) in
      let whole : t * 2 ^ k ≡ 2 ^ 1074 = sym (pow-add 2 (1074 - k) k) ∙ ap (λ (y : ℕ). 2 ^ y) (sum k dropped) in
      let end : n * unit * 2 ^ 1074 ≡ n * t * (unit * 2 ^ k) = ap (λ (y : ℕ). n * unit * y) (sym whole) ∙ regroup n unit t (2 ^ k) in
      let order : w * 2 ^ 1074 * 1 ≤ n * t * (unit * 2 ^ k) =
      le_trans (le_of_eq (mul-one (w * 2 ^ 1074))) (le_trans (mul-le-mul_right (2 ^ 1074) l) (le_of_eq end)) in
      let below = closest_mono (w * 2 ^ 1074) (unit * 2 ^ k) (n * t) 1 (mul-pos p (pow_pos k)) (lit< tt) order in
      let least : q ≤ n * t = le_trans below (le_of_eq (by_one (n * t))) in
      le_trans (mul-le-mul_right (2 ^ k) least) (le_of_eq (mul_assoc n t (2 ^ k) ∙ ap (λ (y : ℕ). n * y) whole))
    where
      sum : (k : ℕ) → k ≤ 1036 → 1074 - k + k ≡ 1074
      sum k h = omega arith

      regroup : (a b c d : ℕ) → a * b * (c * d) ≡ a * c * (b * d)
      regroup a b c d = omega arith

      by_one : (x : ℕ) → closest x 1 ≡ x
      by_one x =
          let a : x % 1 ≡ 0 = omega arith in
          let b : x / 1 ≡ x = omega arith in
          rw (a, b)

  pub reached : q * 2 ^ k < 2 ^ 2098
  reached = lt_of_le_of_lt limited (lt_of_le_of_lt (mul-le-mul_right (2 ^ 1074) low) (lit< tt))

  pub value : (s : Bool) → HasValue (round binary64 s w unit) s (q * 2 ^ k) (2 ^ 1074)
  value s = subst (λ (x : Float). HasValue x s (q * 2 ^ k) (2 ^ 1074)) (sym (round_is binary64 s w unit)) (units_val binary64 s q k reached)

  -- in units it rounds to w
  pub again : half_up (q * 2 ^ k * unit) (2 ^ 1074) ≡ w
  again =
      let b = within (q * 2 ^ k * unit) (w * 2 ^ 1074) (unit * 2 ^ k) (2 ^ 1074) near.0 near.1 step in
      sym (only (q * 2 ^ k * unit) (2 ^ 1074) w (pow_pos 1074) (record { low = b.0; high = b.1 }))
    where
      within : (v n s L : ℕ) → n < v + s → v ≤ n + s → 2 * s < L → (2 * v < 2 * n + L) × (2 * n ≤ 2 * v + L)
      within v n s L a b c = (omega arith, omega arith)
