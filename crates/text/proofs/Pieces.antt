-- Decimal digits: as many as a u64 has, and those of the definition. Assumes nothing.
use Prim.Native.Nat.{ℕ, zero, suc, ◌-◌, ◌*◌, ◌/◌, ◌%◌, ◌^◌, ◌<◌, ◌≤◌}
use mathlib.Core.Path.{◌≡◌, refl, sym, ap, ◌∙◌}
use mathlib.Core.Bool.{Bool, true, false, cond}
use mathlib.Core.List.{List, [], ◌∷◌, ◌++◌}
use native.Mathlib.Omega.{arith}
use native.Mathlib.Nat.{pow-suc, one-le-pow, pow-le-pow_right, zero-lt-suc, not-le_of_lt}
use lib.Dec.{leb}
use borrow.Author.Tests.{lt-ltb, le-ltb, leb-true, leb-false}
use Rattle.io.specs.Digits.{hex_digit_ascii, last_digits, IsDigitCount}
use Rattle.text.specs.Text.{decimal_to}

-- the fewest digits of a u64 are 20 at the most
pub few : (n k : ℕ) → n < 2 ^ 64 → IsDigitCount 10 1 n k → k ≤ 20
few n k h f = go (leb k 20) refl
  where
    go : (b : Bool) → leb k 20 ≡ b → k ≤ 20
    go true e = leb-true k 20 e
    go false e =
        let l : 20 < k = leb-false k 20 e in
        let p : 10 ^ 20 ≤ 10 ^ (k - 1) = (let m : 20 ≤ k - 1 = omega arith in pow-le-pow_right (zero-lt-suc 9) m) in
        let q : 10 ^ (k - 1) ≤ n = f.2 (omega arith) in
        omega arith

-- the fewest digits are those of the definition, where it goes on for as many
pub spelt : (n r k : ℕ) → r ≤ k → IsDigitCount 10 1 n r → last_digits 10 r n ≡ decimal_to k n
unfolding decimal_to
spelt n zero k l f = absurd (not-le_of_lt (zero-lt-suc 0) f.0)
spelt n (suc r) zero l f = absurd (not-le_of_lt (zero-lt-suc r) l)
spelt n (suc zero) (suc k) l f =
    let h : n < 10 = f.1 in
    let e : n % 10 ≡ n = omega arith in
    ap (λ (d : ℕ). hex_digit_ascii d ∷ []) e ∙ sym (ap (λ (b : Bool). cond b (hex_digit_ascii n ∷ []) (decimal_to k (n / 10) ++ (hex_digit_ascii (n % 10) ∷ []))) (lt-ltb n 10 h))
spelt n (suc (suc r)) (suc k) l f =
    let a : 10 ^ suc r ≡ 10 ^ r * 10 = pow-suc 10 r in
    let b : 10 ^ suc (suc r) ≡ 10 ^ suc r * 10 = pow-suc 10 (suc r) in
    let d : suc (suc r) - 1 ≡ suc r = omega arith in
    let h : 10 ^ suc r ≤ n = rw d at (f.2 (omega arith)) in
    let o : 1 ≤ 10 ^ r = one-le-pow r 10 (zero-lt-suc 9) in
    let u : n < 10 ^ suc (suc r) = f.1 in
    let g : IsDigitCount 10 1 (n / 10) (suc r) = (omega arith, omega arith, λ _. let t : suc r - 1 ≡ r = omega arith in rw t (omega arith)) in
    ap (λ (x : List ℕ). x ++ (hex_digit_ascii (n % 10) ∷ [])) (spelt (n / 10) (suc r) k (omega arith) g)
    ∙ sym (ap (λ (b : Bool). cond b (hex_digit_ascii n ∷ []) (decimal_to k (n / 10) ++ (hex_digit_ascii (n % 10) ∷ []))) (le-ltb n 10 (omega arith)))
