-- Arrays that are filled from the front: their next entry, their next three, what they hold and how many. Assumes nothing.
use Prim.Native.Nat.{ℕ, zero, suc, ◌+◌, ◌*◌, ◌/◌, ◌%◌, ◌<◌, ◌≤◌}
use mathlib.Core.Path.{◌≡◌, refl, ◌∙◌}
use mathlib.Core.Logic.{◌⊎◌, inl, inr}
use mathlib.Core.List.{List}
use native.Mathlib.Omega.{arith}
use native.Mathlib.Numerals.{add-one}
use native.Mathlib.Nat.{eq-or-lt_of_le}
use lib.ListN.{get_or, set, length, length-set}
use lib.Seq.{get_or-set_same, get_or-set_other}
use Rattle.receptions.specs.Receptions.{fill_to}

pub fill-next : {A : Type 0} (a : List A) (f : ℕ → A) (k : ℕ) → set (fill_to a f k) k (f k) ≡ fill_to a f (k + 1)
unfolding fill_to
fill-next a f k = rw add-one

-- three for each i
pub fill-three : {A : Type 0} (a : List A) (g : ℕ → ℕ → A) (i : ℕ)
    → set (set (set (fill_to a (λ k. g (k / 3) (k % 3)) (3 * i)) (3 * i) (g i 0)) (3 * i + 1) (g i 1)) (3 * i + 2) (g i 2)
    ≡ fill_to a (λ k. g (k / 3) (k % 3)) (3 * (i + 1))
unfolding fill_to
fill-three a g i =
    let n : 3 * (i + 1) ≡ suc (suc (suc (3 * i))) = omega arith in
    let one : suc (3 * i) ≡ 3 * i + 1 = omega arith in
    let two : suc (3 * i + 1) ≡ 3 * i + 2 = omega arith in
    let a0 : 3 * i / 3 ≡ i = omega arith in
    let b0 : 3 * i % 3 ≡ 0 = omega arith in
    let a1 : (3 * i + 1) / 3 ≡ i = omega arith in
    let b1 : (3 * i + 1) % 3 ≡ 1 = omega arith in
    let a2 : (3 * i + 2) / 3 ≡ i = omega arith in
    let b2 : (3 * i + 2) % 3 ≡ 2 = omega arith in
    rw (n, one, two, a0, b0, a1, b1, a2, b2)

pub fill-length : {A : Type 0} (a : List A) (f : ℕ → A) (k : ℕ) → length (fill_to a f k) ≡ length a
unfolding fill_to
fill-length a f zero = refl
fill-length a f (suc k) = length-set (fill_to a f k) k (f k) ∙ fill-length a f k

pub fill-at : {A : Type 0} (a : List A) (f : ℕ → A) (k i : ℕ) (d : A) → i < k → i < length a → get_or (fill_to a f k) i d ≡ f i
unfolding fill_to
fill-at a f zero i d h l = absurd (omega arith)
fill-at a f (suc k) i d h l = go (eq-or-lt_of_le (let q : i ≤ k = omega arith in q)) (λ q. fill-at a f k i d q l)
  where
    go : (i ≡ k) ⊎ (i < k) → (i < k → get_or (fill_to a f k) i d ≡ f i) → get_or (set (fill_to a f k) k (f k)) i d ≡ f i
    go (inl q) r = rw q (get_or-set_same (fill_to a f k) k (f k) d (let e = fill-length a f k in omega arith))
    go (inr q) r = get_or-set_other (fill_to a f k) k i (f k) d (λ w. omega arith) ∙ r q

-- they hold no more than what they are filled from
pub fill-same : {A : Type 0} (a : List A) (f g : ℕ → A) (k : ℕ) → ((i : ℕ) → i < k → f i ≡ g i) → fill_to a f k ≡ fill_to a g k
unfolding fill_to
fill-same a f g zero h = refl
fill-same a f g (suc k) h = rw (fill-same a f g k (λ i l. h i (omega arith)), h k (omega arith))
