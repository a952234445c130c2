-- Where a binary64 lies outside a u64, the cast to one gives the nearest end of the range, and where it lies between two small whole numbers, the
-- lesser. Assumes nothing.
use Rattle.std.proofs.Common.{◌≡◌, ℕ, suc, ◌+◌, ◌*◌, ◌/◌, ◌^◌, ◌<◌, ◌≤◌, min, true, false, T, eqb, ltb, pos, sym, refl, ap, ◌∙◌, true≢false, le_trans, le_of_eq, lt_of_lt_of_le, lt_of_le_of_lt, lt_irrefl, div-lt_iff_lt-mul, mul-pos, le-div_iff_mul-le, mul-one, arith, eqb→eq, ltb→lt, ltb-false, ltb-true}
use native.Mathlib.Nat.{min-eq_right}
use mathlib.Core.Bool.{false≢true}
use lib.Ieee.{Float, nan, inf, fin, up, down, lt, le, to_unsigned}
use lib.Ieee.Fits.{and_r, down_pos}
use Rattle.binary64.proofs.Units.{le-of-test}

-- a quotient of 2 ^ 64 or more
full : (a d : ℕ) → 0 < d → 2 ^ 64 * d ≤ a * 1 → 0xffffffffffffffff ≡ min (a / d) 0xffffffffffffffff
full a d p h =
    let q : 2 ^ 64 ≤ a / d = (le-div_iff_mul-le {k = d} {x = 2 ^ 64} {y = a} p).1 (omega arith) in
    sym (min-eq_right (omega arith))

-- 2 ^ 64 or more
pub cast-most : (q : Float) → lt (fin true 1 (pos 0)) q ≡ true → lt q (fin false 1 (pos 64)) ≡ false → 0xffffffffffffffff ≡ to_unsigned 64 q
unfolding lt to_unsigned
cast-most nan h k = absurd (false≢true h)
cast-most (inf true) h k = absurd (false≢true h)
cast-most (inf false) h k = refl
cast-most (fin true m e) h k = let a = m * up e in let d = down e in omega (arith, down_pos e, ltb-false 0 (a * 1 + 2 ^ 64 * d) k)
cast-most (fin false m e) h k = full (m * up e) (down e) (down_pos e) (ltb-false (m * up e * 1) (2 ^ 64 * down e) k)

-- -1 or less, or not a number
pub cast-least : (q : Float) → lt (fin true 1 (pos 0)) q ≡ false → 0 ≡ to_unsigned 64 q
unfolding lt to_unsigned
cast-least nan h = refl
cast-least (inf true) h = refl
cast-least (inf false) h = absurd (true≢false h)
cast-least (fin true m e) h = refl
cast-least (fin false m e) h = omega (arith, down_pos e, ltb-false 0 (1 * down e + m * up e * 1) h)

-- from k below k + 1, where k is a * 2 ^ i and k + 1 is b * 2 ^ j
between : (x d k : ℕ) → 0 < d → k < 2 ^ 53 → k * d ≤ x → x < suc k * d → min (x / d) 0xffffffffffffffff ≡ k
between x d k p s h l =
    let lo : k ≤ x / d = (le-div_iff_mul-le {k = d} {x = k} {y = x} p).1 h in
    let hi : x / d < suc k = (div-lt_iff_lt-mul {k = d} {x = x} {y = suc k} p).1 l in
    omega arith

none : (k d : ℕ) → 0 < d → 0 < k → k * d ≡ 0 → ⊥
none k d p q e = lt_irrefl 0 (lt_of_lt_of_le (mul-pos q p) (le_of_eq e))

pub cast-whole : (q : Float) (a i b j k : ℕ) → a * 2 ^ i ≡ k → b * 2 ^ j ≡ suc k → T (ltb 0 k) → T (ltb k (2 ^ 53)) → T (le (fin false a (pos i)) q)
    → lt q (fin false b (pos j)) ≡ true → to_unsigned 64 q ≡ k
unfolding lt le to_unsigned
cast-whole nan a i b j k u v p s h l = absurd h
cast-whole (inf true) a i b j k u v p s h l = absurd h
cast-whole (inf false) a i b j k u v p s h l = absurd (false≢true l)
cast-whole (fin true m e) a i b j k u v p s h l =
    let A = a * 2 ^ i * down e in
    absurd (none k (down e) (down_pos e) (ltb→lt 0 k p) (ap (λ (z : ℕ). z * down e) (sym u) ∙ eqb→eq A 0 (and_r (eqb A (m * up e * 1)) (eqb A 0) h)))
cast-whole (fin false m e) a i b j k u v p s h l =
    let x = m * up e in
    let d = down e in
    let lo : a * 2 ^ i * d ≤ x * 1 = le-of-test (a * 2 ^ i * d) (x * 1) true h in
    let hi : x * 1 < b * 2 ^ j * d = ltb-true (x * 1) (b * 2 ^ j * d) l in
    between x d k (down_pos e) (ltb→lt k (2 ^ 53) s)
    (le_trans (le_of_eq (ap (λ (z : ℕ). z * d) (sym u))) (le_trans lo (le_of_eq (mul-one x))))
    (lt_of_le_of_lt (le_of_eq (sym (mul-one x))) (lt_of_lt_of_le hi (le_of_eq (ap (λ (z : ℕ). z * d) v))))
