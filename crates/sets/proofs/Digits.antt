-- The binary digits of masks. Assumes nothing.
use mathlib.Core.Path.{◌≡◌, refl, sym, ap, ◌∙◌}
use mathlib.Core.Logic.{inl, inr}
use mathlib.Core.Bool.{Bool, false, not, cond, ◌&&◌, ◌||◌}
use Prim.Native.Nat.{ℕ, zero, suc, ◌+◌, ◌-◌, ◌*◌, ◌/◌, ◌%◌, ◌^◌, ◌≤◌, ◌<◌, min, max}
use native.Mathlib.Nat.{mod-lt, zero-div, zero-lt-suc, pow-suc}
use native.Mathlib.Omega.{arith}
use lib.Dec.{T, T_not, eqb, ltb, eqb-zero-suc, eqb-suc-zero, eqb-suc-suc, ltb→lt, nltb→le}
use lib.Arith.{digits_mod}
use lib.Pow.{shr-shr}
use lib.Bits.{bit_and, bit_or, and_step, or_step, and_shr, or_shr}
use Rattle.sets.specs.Mask.{has}
use Rattle.sets.proofs.Tests.{either, eq→F}

-- a fact of the digits 0 and 1
digit-cases : (P : ℕ → Type 0) → P 0 → P 1 → (d : ℕ) → d < 2 → P d
digit-cases P a b zero h = a
digit-cases P a b (suc zero) h = b
digit-cases P a b (suc (suc d)) h = absurd (omega arith)

digit_lt : (n : ℕ) → n % 2 < 2
digit_lt n = mod-lt n (zero-lt-suc 1)

pub has-suc : (m j : ℕ) → has m (suc j) ≡ has (m / 2) j
unfolding has
has-suc m j = ap (λ (x : ℕ). eqb (x % 2) 1) (ap (λ (x : ℕ). m / 2 ^ x) (let e : suc j ≡ 1 + j = omega arith in e) ∙ sym (shr-shr m 1 j))

pub has-low : (m : ℕ) → cond (has m 0) 1 0 ≡ m % 2
unfolding has
has-low m = digit-cases (λ (d : ℕ). cond (eqb d 1) 1 0 ≡ d) refl refl (m / 2 ^ 0 % 2) (digit_lt (m / 2 ^ 0)) ∙ omega arith

pub has-zero : (j : ℕ) → has 0 j ≡ false
unfolding has
has-zero j = ap (λ (x : ℕ). eqb (x % 2) 1) (zero-div (2 ^ j))

-- past its digits a mask has nothing
pub has-beyond : (n m j : ℕ) → m < 2 ^ n → n ≤ j → has m j ≡ false
has-beyond zero m j h l = ap (λ (x : ℕ). has x j) (let e : m ≡ 0 = omega arith in e) ∙ has-zero j
has-beyond (suc n) m zero h l = absurd (omega arith)
has-beyond (suc n) m (suc j) h l = has-suc m j ∙ has-beyond n (m / 2) j (omega (arith, pow-suc 2 n)) (omega arith)

pub has-below : (n m j : ℕ) → m < 2 ^ n → T (has m j) → j < n
has-below n m j h t = elim (either (ltb j n)) [
  | inl l ↦ ltb→lt j n l
  | inr g
      ↦ absurd (T_not (has m j) (eq→F (has-beyond n m j h (nltb→le j n g))) t)
]

-- ---- two masks, digit by digit
module _ (op f : ℕ → ℕ → ℕ) (g : Bool → Bool → Bool)
    (shr : (a b k : ℕ) → op a b / 2 ^ k ≡ op (a / 2 ^ k) (b / 2 ^ k)) (step : (a b : ℕ) → op a b ≡ op (a / 2) (b / 2) * 2 + f (a % 2) (b % 2))
    (digit : (d : ℕ) → d < 2 → (e : ℕ) → e < 2 → (f d e < 2) × (eqb (f d e) 1 ≡ g (eqb d 1) (eqb e 1))) where
  has-op : (a b j : ℕ) → has (op a b) j ≡ g (has a j) (has b j)
  unfolding has
  has-op a b j =
      let x = a / 2 ^ j in
      let y = b / 2 ^ j in
      let h = digit (x % 2) (digit_lt x) (y % 2) (digit_lt y) in
      ap (λ (z : ℕ). eqb (z % 2) 1) (shr a b j ∙ step x y) ∙ ap (λ (z : ℕ). eqb z 1) (digits_mod (op (x / 2) (y / 2)) h.0) ∙ h.1

pub has-and : (a b j : ℕ) → has (bit_and a b) j ≡ (has a j && has b j)
has-and = has-op bit_and min ◌&&◌ and_shr and_step (digit-cases _ (digit-cases _ (omega arith, refl) (omega arith, refl))
    (digit-cases _ (omega arith, refl) (omega arith, refl)))

pub has-or : (a b j : ℕ) → has (bit_or a b) j ≡ (has a j || has b j)
has-or = has-op bit_or max ◌||◌ or_shr or_step (digit-cases _ (digit-cases _ (omega arith, refl) (omega arith, refl))
    (digit-cases _ (omega arith, refl) (omega arith, refl)))

-- ---- masks of the code

-- one digit
pub has-pow : (i j : ℕ) → has (2 ^ i) j ≡ eqb j i
unfolding has
has-pow zero zero = refl
has-pow zero (suc j) = has-suc 1 j ∙ has-zero j ∙ sym (eqb-suc-zero j)
has-pow (suc i) zero = ap (λ (x : ℕ). eqb x 1) (let e : 2 ^ suc i / 1 % 2 ≡ 0 = omega arith in e) ∙ sym (eqb-zero-suc i)
has-pow (suc i) (suc j) = has-suc (2 ^ suc i) j ∙ ap (λ (x : ℕ). has x j) (let e : 2 ^ suc i / 2 ≡ 2 ^ i = omega arith in e) ∙ has-pow i j
    ∙ sym (eqb-suc-suc j i)

-- each of n digits turned
pub has-not : (n m j : ℕ) → m < 2 ^ n → j < n → has (2 ^ n - 1 - m) j ≡ not (has m j)
unfolding has
has-not zero m j h l = absurd (omega arith)
has-not (suc n) m zero h l =
    ap (λ (z : ℕ). eqb z 1) (let e : (2 ^ suc n - 1 - m) / 1 % 2 ≡ 1 - m / 1 % 2 = omega arith in e)
    ∙ digit-cases (λ (d : ℕ). eqb (1 - d) 1 ≡ not (eqb d 1)) refl refl (m / 1 % 2) (digit_lt (m / 1))
has-not (suc n) m (suc j) h l =
    has-suc (2 ^ suc n - 1 - m) j ∙ ap (λ (z : ℕ). has z j) (let e : (2 ^ suc n - 1 - m) / 2 ≡ 2 ^ n - 1 - m / 2 = omega arith in e)
    ∙ has-not n (m / 2) j (omega arith) (omega arith) ∙ ap not (sym (has-suc m j))
