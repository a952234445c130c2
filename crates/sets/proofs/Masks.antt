-- What the code's operations on masks do to the sets, and that a mask and its set are known by each other. Assumes nothing.
use mathlib.Core.Path.{◌≡◌, refl, sym, ap, ap₂, subst, fun_ext, ◌∙◌}
use mathlib.Core.Logic.{◌⊎◌, inl, inr}
use mathlib.Core.Bool.{Bool, true, false, not, cond, ◌&&◌, ◌||◌}
use Prim.Native.Nat.{ℕ, zero, suc, ◌+◌, ◌-◌, ◌*◌, ◌/◌, ◌%◌, ◌^◌, ◌≤◌, ◌<◌}
use native.Mathlib.Nat.{one-mul, pow-suc, lt_of_lt_of_le}
use native.Mathlib.Omega.{arith}
use lib.Dec.{T, eqb, ltb, lit<, ltb→lt, nltb→le}
use lib.Pow.{shl_exact, pow-lt, pow_pos, pow_mono, ones_lt}
use lib.Bits.{bit_and, bit_or, or_lt}
use lib.Count.{ones, ones_step}
use Rattle.sets.specs.Sets.{Subset, first, joined, without, count}
use Rattle.sets.specs.Mask.{has, mask_of}
use Rattle.sets.proofs.Tests.{either, T→eq, F→eq}
use Rattle.sets.proofs.Belonging.{subset-ext}
use Rattle.sets.proofs.Counting.{bit_le, count_same}
use Rattle.sets.proofs.Digits.{has-suc, has-low, has-zero, has-below, has-beyond, has-and, has-or, has-pow, has-not}

-- 1 << i, as the prover has it
pub one_bit : (i : ℕ) → i < 32 → 1 * 2 ^ i % 2 ^ 32 ≡ 2 ^ i
one_bit i h = shl_exact 1 i 32 (lit< tt) (omega arith) ∙ one-mul (2 ^ i)

module _ (m i : ℕ) (h : i < 32) where
  pub has-joined : has (bit_or m (1 * 2 ^ i % 2 ^ 32)) ≡ joined (has m) i
  unfolding joined
  has-joined = ap (λ (x : ℕ). has (bit_or m x)) (one_bit i h) ∙ fun_ext (λ (j : ℕ). has-or m (2 ^ i) j ∙ ap (λ (b : Bool). has m j || b) (has-pow i j))

  pub joined-lt : (n : ℕ) → i < n → m < 2 ^ n → bit_or m (1 * 2 ^ i % 2 ^ 32) < 2 ^ n
  joined-lt n l k = or_lt n m (1 * 2 ^ i % 2 ^ 32) k (subst (λ (x : ℕ). x < 2 ^ n) (sym (one_bit i h)) (pow-lt l))

  pub has-without : m < 2 ^ 32 → has (bit_and m (2 ^ 32 - 1 - 1 * 2 ^ i % 2 ^ 32)) ≡ without (has m) i
  unfolding without
  has-without l = ap (λ (x : ℕ). has (bit_and m (2 ^ 32 - 1 - x))) (one_bit i h)
      ∙ fun_ext (λ (j : ℕ). has-and m (2 ^ 32 - 1 - 2 ^ i) j ∙ go j (either (ltb j 32)))
    where
      go : (j : ℕ) → T (ltb j 32) ⊎ T (not (ltb j 32)) → (has m j && has (2 ^ 32 - 1 - 2 ^ i) j) ≡ (has m j && not (eqb j i))
      go j (inl t) = ap (λ (b : Bool). has m j && b) (has-not 32 (2 ^ i) j (pow-lt h) (ltb→lt j 32 t) ∙ ap not (has-pow i j))
      go j (inr t) = rw (has-beyond 32 m j l (nltb→le j 32 t)) refl

pub has_first : (n : ℕ) → has (2 ^ n - 1) ≡ first n
has_first n = fun_ext (λ (j : ℕ). go j (either (ltb j n)))
  where
    go : (j : ℕ) → T (ltb j n) ⊎ T (not (ltb j n)) → has (2 ^ n - 1) j ≡ ltb j n
    go j (inl t) = ap (λ (x : ℕ). has x j) (let e : 2 ^ n - 1 ≡ 2 ^ n - 1 - 0 = omega arith in e) ∙ has-not n 0 j (pow_pos n) (ltb→lt j n t)
        ∙ ap not (has-zero j) ∙ sym (T→eq (ltb j n) t)
    go j (inr t) = has-beyond n (2 ^ n - 1) j (ones_lt n) (nltb→le j n t) ∙ sym (F→eq (ltb j n) t)

-- ---- the number of ones

-- a count begun at the lowest
count_low : (S : Subset) (n : ℕ) → count S (suc n) ≡ cond (S 0) 1 0 + count (λ (j : ℕ). S (suc j)) n
unfolding count
count_low S zero = refl
count_low S (suc n) = omega (arith, count_low S n)

pub count_ones : (n m : ℕ) → m < 2 ^ n → ones m ≡ count (has m) n
unfolding count ones
count_ones zero m h = ap ones (let e : m ≡ 0 = omega arith in e)
count_ones (suc n) m h =
    ones_step m ∙ ap₂ (λ (x y : ℕ). x + y) (sym (has-low m))
    (count_ones n (m / 2) (omega (arith, pow-suc 2 n)) ∙ count_same (has (m / 2)) (λ (j : ℕ). has m (suc j)) n (λ j l. sym (has-suc m j)))
    ∙ sym (count_low (has m) n)

-- the same at every width that holds the mask
pub count-within : (n m : ℕ) → m < 2 ^ n → n ≤ 32 → count (has m) 32 ≡ count (has m) n
count-within n m h l = sym (count_ones 32 m (lt_of_lt_of_le h (pow_mono l))) ∙ count_ones n m h

-- ---- a mask of n digits is the mask of its set
mask_low : (S : Subset) (n : ℕ) → mask_of S (suc n) ≡ cond (S 0) 1 0 + 2 * mask_of (λ (j : ℕ). S (suc j)) n
unfolding mask_of
mask_low S zero = omega arith
mask_low S (suc n) = omega (arith, mask_low S n, ap (λ (x : ℕ). cond (S (suc n)) 1 0 * x) (pow-suc 2 n))

pub mask-same : (S R : Subset) (n : ℕ) → ((j : ℕ) → j < n → S j ≡ R j) → mask_of S n ≡ mask_of R n
unfolding mask_of
mask-same S R zero h = refl
mask-same S R (suc k) h = rw (h k (omega arith), mask-same S R k (λ j l. h j (omega arith))) refl

pub mask-back : (n m : ℕ) → m < 2 ^ n → mask_of (has m) n ≡ m
unfolding mask_of
mask-back zero m h = omega arith
mask-back (suc n) m h =
    mask_low (has m) n
    ∙ ap₂ (λ (x y : ℕ). x + 2 * y) (has-low m) (mask-same (λ (j : ℕ). has m (suc j)) (has (m / 2)) n (λ j l. has-suc m j)
    ∙ mask-back n (m / 2) (omega (arith, pow-suc 2 n)))
    ∙ omega arith

-- ---- and the mask of a set of receptions below n has that set
bit-same : (a b : Bool) → ◌≡◌ {A = ℕ} (cond a 1 0) (cond b 1 0) → a ≡ b
bit-same true true e = refl
bit-same true false e = absurd (omega arith)
bit-same false true e = absurd (omega arith)
bit-same false false e = refl

has-mask : (S : Subset) (n j : ℕ) → j < n → has (mask_of S n) j ≡ S j
has-mask S zero j h = absurd (omega arith)
has-mask S (suc n) zero h =
    bit-same (has (mask_of S (suc n)) 0) (S 0) (has-low (mask_of S (suc n)) ∙ ap (λ (m : ℕ). m % 2) (mask_low S n) ∙ omega (arith, bit_le (S 0)))
has-mask S (suc n) (suc j) h =
    has-suc (mask_of S (suc n)) j ∙ ap (λ (m : ℕ). has m j) (ap (λ (m : ℕ). m / 2) (mask_low S n) ∙ omega (arith, bit_le (S 0)))
    ∙ has-mask (λ i. S (suc i)) n j (omega arith)

pub mask_lt : (S : Subset) (n : ℕ) → mask_of S n < 2 ^ n
unfolding mask_of
mask_lt S zero = omega arith
mask_lt S (suc n) = go (S n) (mask_lt S n)
  where
    go : (b : Bool) → mask_of S n < 2 ^ n → cond b 1 0 * 2 ^ n + mask_of S n < 2 ^ suc n
    go true h = omega (arith, pow-suc 2 n)
    go false h = omega (arith, pow-suc 2 n)

pub set-of-mask : (S : Subset) (n : ℕ) → ((j : ℕ) → T (S j) → j < n) → has (mask_of S n) ≡ S
set-of-mask S n w = subset-ext (has (mask_of S n)) S (λ j. (
  (λ t. let l = has-below n (mask_of S n) j (mask_lt S n) t in subst T (has-mask S n j l) t),
  (λ t. subst T (sym (has-mask S n j (w j t))) t),
))
