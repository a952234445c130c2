-- The counts add up: each pattern leaves one number of survivors, of 0 to n; and none leaves 0, where n is above 0. Assumes nothing.
use mathlib.Core.Path.{◌≡◌, refl, sym, ap, ◌∙◌}
use mathlib.Core.Logic.{◌⊎◌, inl, inr}
use mathlib.Core.Bool.{cond}
use Prim.Native.Nat.{ℕ, zero, suc, ◌+◌, ◌^◌, ◌≤◌, ◌<◌}
use native.Mathlib.Omega.{arith}
use lib.Dec.{eqb}
use Rattle.sets.specs.Sets.{count}
use Rattle.sets.proofs.Tests.{T→eq, F→eq, eq→eqb, ne→neqb, lt-suc-cases}
use Rattle.sets.proofs.Counting.{count-le}
use Rattle.screen.specs.Screen.{kept}
use Rattle.patterns.specs.Patterns.{pairs, failing, survivors, leaving}
use Rattle.patterns.specs.Meaning.{sum_to, CountsAddUp, NoneBeyond, SomebodyIsLeft}
use Rattle.patterns.proofs.Places.{pairs-half}
use Rattle.patterns.proofs.Left.{one_left}

-- what a pattern leaves
abbrev pub left : ℕ → ℕ → ℕ
left n p = survivors n (failing n p)

pub left_le : (n p : ℕ) → left n p ≤ n
unfolding survivors
left_le n p = count-le (kept n (failing n p)) n

-- ---- numbers f p, p below k, sorted by what they are
abbrev bit : ℕ → ℕ → ℕ
bit x s = cond (eqb x s) 1 0

bit-same : (x : ℕ) → ◌≡◌ {A = ℕ} (bit x x) 1
bit-same x = rw (T→eq (eqb x x) (eq→eqb x x refl)) refl

bit-other : (x s : ℕ) → (x ≡ s → ⊥) → ◌≡◌ {A = ℕ} (bit x s) 0
bit-other x s h = rw (F→eq (eqb x s) (ne→neqb x s h)) refl

sum-none : (x m : ℕ) → m ≤ x → sum_to (λ (s : ℕ). bit x s) m ≡ 0
unfolding sum_to
sum-none x zero h = refl
sum-none x (suc m) h = omega (arith, bit-other x m (λ e. omega arith), sum-none x m (omega arith))

sum_one : (x m : ℕ) → x < m → sum_to (λ (s : ℕ). bit x s) m ≡ 1
unfolding sum_to
sum_one x zero h = absurd (omega arith)
sum_one x (suc m) h = go (lt-suc-cases x m h) (sum_one x m)
  where
    go : (x ≡ m) ⊎ (x < m) → (x < m → sum_to (λ (s : ℕ). bit x s) m ≡ 1) → bit x m + sum_to (λ (s : ℕ). bit x s) m ≡ 1
    go (inl e) f = omega (arith, ap (bit x) (sym e) ∙ bit-same x, sum-none x m (omega arith))
    go (inr l) f = omega (arith, f l, bit-other x m (λ e. omega arith))

sum-add : (f g : ℕ → ℕ) (m : ℕ) → sum_to (λ (s : ℕ). f s + g s) m ≡ sum_to f m + sum_to g m
unfolding sum_to
sum-add f g zero = omega arith
sum-add f g (suc m) = omega (arith, sum-add f g m)

sum-zero : (m : ℕ) → sum_to (λ (s : ℕ). 0) m ≡ 0
unfolding sum_to
sum-zero zero = refl
sum-zero (suc m) = omega (arith, sum-zero m)

sorted : (f : ℕ → ℕ) (m : ℕ) → ((p : ℕ) → f p < m) → (k : ℕ) → sum_to (λ (s : ℕ). count (λ (p : ℕ). eqb (f p) s) k) m ≡ k
unfolding count
sorted f m h zero = sum-zero m
sorted f m h (suc k) =
    sum-add (λ (s : ℕ). bit (f k) s) (λ (s : ℕ). count (λ (p : ℕ). eqb (f p) s) k) m
    ∙ omega (arith, sum_one (f k) m (h k), sorted f m h k)

never : (f : ℕ → ℕ) (s k : ℕ) → ((p : ℕ) → f p ≡ s → ⊥) → count (λ (p : ℕ). eqb (f p) s) k ≡ 0
unfolding count
never f s zero h = refl
never f s (suc k) h = omega (arith, bit-other (f k) s (h k), never f s k h)

-- ---- the statements
pub counts-add-up : CountsAddUp
unfolding leaving
counts-add-up n m l = sorted (left n) m (λ p. omega (arith, left_le n p)) (2 ^ pairs n) ∙ ap (λ (k : ℕ). 2 ^ k) (pairs-half n)

pub none-beyond : NoneBeyond
unfolding leaving
none-beyond n s l = never (left n) s (2 ^ pairs n) (λ p e. omega (arith, left_le n p))

pub somebody-is-left : SomebodyIsLeft
unfolding leaving
somebody-is-left n h = never (left n) 0 (2 ^ pairs n) (λ p e. omega (arith, one_left n p h))
