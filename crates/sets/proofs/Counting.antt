-- How many are in a set. Assumes nothing.
use mathlib.Core.Path.{◌≡◌, refl, sym, ap, subst}
use mathlib.Core.Logic.{◌⊎◌, inl, inr}
use mathlib.Core.Bool.{Bool, true, false, not, cond}
use Prim.Native.Nat.{ℕ, zero, suc, ◌+◌, ◌≤◌, ◌<◌}
use native.Mathlib.Omega.{arith}
use lib.Dec.{T, not_T}
use Rattle.sets.specs.Sets.{Subset, without, count}
use Rattle.sets.proofs.Tests.{either, same-T, lt-suc-cases}
use Rattle.sets.proofs.Belonging.{in_without}

bit_in : (b : Bool) → T b → ◌≡◌ {A = ℕ} (cond b 1 0) 1
bit_in true t = refl
bit_in false t = elim t [ ]

bit-out : (b : Bool) → T (not b) → ◌≡◌ {A = ℕ} (cond b 1 0) 0
bit-out false t = refl
bit-out true t = elim t [ ]

pub bit_le : (b : Bool) → cond b 1 0 ≤ 1
bit_le true = omega arith
bit_le false = omega arith

pub count_same : (S R : Subset) (n : ℕ) → ((j : ℕ) → j < n → S j ≡ R j) → count S n ≡ count R n
unfolding count
count_same S R zero h = refl
count_same S R (suc k) h = rw (h k (omega arith), count_same S R k (λ j l. h j (omega arith))) refl

pub count-le : (S : Subset) (n : ℕ) → count S n ≤ n
unfolding count
count-le S zero = omega arith
count-le S (suc k) = omega (arith, count-le S k, bit_le (S k))

-- one that is there counts
pub count-pos : (S : Subset) (n i : ℕ) → i < n → T (S i) → 0 < count S n
unfolding count
count-pos S zero i h t = absurd (omega arith)
count-pos S (suc k) i h t = go (lt-suc-cases i k h) (λ l. count-pos S k i l t)
  where
    go : (i ≡ k) ⊎ (i < k) → (i < k → 0 < count S k) → 0 < cond (S k) 1 0 + count S k
    go (inl e) f = omega (arith, bit_in (S k) (subst (λ (x : ℕ). T (S x)) e t))
    go (inr l) f = omega (arith, f l)

-- and where the count is not 0, one is there
pub count-some : (S : Subset) (n : ℕ) → 0 < count S n → (i : ℕ) × (i < n) × T (S i)
unfolding count
count-some S zero h = absurd (omega arith)
count-some S (suc k) h = go (either (S k)) (count-some S k)
  where
    go : T (S k) ⊎ T (not (S k)) → (0 < count S k → (i : ℕ) × (i < k) × T (S i)) → (i : ℕ) × (i < suc k) × T (S i)
    go (inl t) f = (k, omega arith, t)
    go (inr t) f = let r = f (omega (arith, bit-out (S k) t)) in (r.0, omega (arith, r.1), r.2)

-- one less
pub count-without : (S : Subset) (n i : ℕ) → i < n → T (S i) → suc (count (without S i) n) ≡ count S n
unfolding count
count-without S zero i h t = absurd (omega arith)
count-without S (suc k) i h t = go (lt-suc-cases i k h) (λ l. count-without S k i l t)
  where
    stays : (j : ℕ) → (j ≡ i → ⊥) → without S i j ≡ S j
    stays j h = same-T (without S i j) (S j) (λ u. ((in_without S i j).0 u).0) (λ u. (in_without S i j).1 (u, h))

    goes : i ≡ k → T (not (without S i k))
    goes e = not_T (without S i k) (λ u. ((in_without S i k).0 u).1 (sym e))

    go : (i ≡ k) ⊎ (i < k) → (i < k → suc (count (without S i) k) ≡ count S k) → suc (cond (without S i k) 1 0 + count (without S i) k)
        ≡ cond (S k) 1 0 + count S k
    go (inl e) f = omega (
      arith,
      bit_in (S k) (subst (λ (x : ℕ). T (S x)) e t),
      bit-out (without S i k) (goes e),
      count_same (without S i) S k (λ j l. stays j (λ q. omega arith)),
    )
    go (inr l) f = omega (arith, ap {B = ℕ} (λ (b : Bool). cond b 1 0) (stays k (λ q. omega arith)), f l)
