-- The places of the pairs in a pattern: each place is that of one pair. Assumes nothing.
use mathlib.Core.Path.{◌≡◌, refl, sym, ap, ◌∙◌}
use mathlib.Core.Logic.{◌⊎◌, inl, inr}
use mathlib.Core.Bool.{Bool, true, false, not, cond}
use Prim.Native.Nat.{ℕ, zero, suc, ◌+◌, ◌-◌, ◌*◌, ◌/◌, ◌≤◌, ◌<◌}
use native.Mathlib.Omega.{arith}
use lib.Dec.{T, ltb, ltb→lt, nltb→le}
use borrow.Author.Tests.{lt-ltb, le-ltb}
use Rattle.sets.specs.Mask.{has}
use Rattle.sets.proofs.Tests.{either, eq→T, eq→F, lt-suc-cases, neither-below}
use Rattle.patterns.specs.Patterns.{pairs, clash}
use Rattle.patterns.specs.Meaning.{PairsAre}

-- twice the pairs, and each with itself, are all that can be named
pub twice : (n : ℕ) → 2 * pairs n + n ≡ n * n
unfolding pairs
twice zero = omega arith
twice (suc a) = omega (arith, twice a)

pub pairs-half : (n : ℕ) → pairs n ≡ n * (n - 1) / 2
unfolding pairs
pairs-half zero = refl
pairs-half (suc a) =
    let e : suc a - 1 ≡ a = omega arith in
    let q : suc a * (suc a - 1) ≡ a * a + a = ap (λ (x : ℕ). suc a * x) e ∙ omega arith in
    omega (arith, twice a, q)

pub pairs-are : PairsAre
pairs-are = pairs-half

pub pairs-mono : (a n : ℕ) → a ≤ n → pairs a ≤ pairs n
unfolding pairs
pairs-mono a zero h = let e : a ≡ 0 = omega arith in omega (arith, ap pairs e)
pairs-mono a (suc n) h = go (lt-suc-cases a (suc n) (omega arith)) (λ l. pairs-mono a n l)
  where
    go : (a ≡ suc n) ⊎ (a < suc n) → (a ≤ n → pairs a ≤ pairs n) → pairs a ≤ pairs (suc n)
    go (inl e) f = omega (arith, ap pairs e)
    go (inr l) f = omega (arith, f (omega arith))

-- ---- the pair at a place
pub record Pair : Type 0 where
  pub late : ℕ
  pub early : ℕ

next_pair : Pair → Pair
next_pair q = cond (ltb (suc q.early) q.late) (record { late = q.late; early = suc q.early }) (record { late = suc q.late; early = 0 })

pub pair_at : ℕ → Pair
pair_at zero = record { late = 1; early = 0 }
pair_at (suc k) = next_pair (pair_at k)

pub record At (k : ℕ) (q : Pair) : Type 0 where
  pub ordered : q.early < q.late
  pub place : pairs q.late + q.early ≡ k

next-at : (k : ℕ) (q : Pair) → At k q → At (suc k) (next_pair q)
unfolding pairs next_pair
next-at k q h = go (ltb (suc q.early) q.late) refl
  where
    go
        : (b : Bool) → ltb (suc q.early) q.late ≡ b
        → At (suc k) (cond b (record { late = q.late; early = suc q.early }) (record { late = suc q.late; early = 0 }))
    go true e = record { ordered = ltb→lt (suc q.early) q.late (eq→T e); place = omega (arith, h.place) }
    go false e = record { ordered = omega arith; place = omega (arith, h.place, h.ordered, nltb→le (suc q.early) q.late (eq→F e)) }

pub at_place : (k : ℕ) → At k (pair_at k)
unfolding pairs pair_at
at_place zero = record { ordered = omega arith; place = refl }
at_place (suc k) = next-at k (pair_at k) (at_place k)

-- no other pair has that place
late-before : (a b c d : ℕ) → b < a → pairs a + b ≡ pairs c + d → a < c → ⊥
unfolding pairs
late-before a b c d h e l = let m : pairs a + a ≤ pairs c = pairs-mono (suc a) c (omega arith) in omega arith

pub one_place : (a b : ℕ) (q : Pair) → b < a → At (pairs a + b) q → (q.late ≡ a) × (q.early ≡ b)
one_place a b q h at =
    let e : q.late ≡ a =
    neither-below q.late a
    (late-before q.late q.early a b at.ordered at.place)
    (late-before a b q.late q.early h (sym at.place)) in
    (e, omega (arith, at.place, ap pairs e))

pub pair-at : (a b : ℕ) → b < a → ((pair_at (pairs a + b)).late ≡ a) × ((pair_at (pairs a + b)).early ≡ b)
pair-at a b h = one_place a b (pair_at (pairs a + b)) h (at_place (pairs a + b))

-- the pairs of n receptions are below n
pub late_below : (n k : ℕ) → k < pairs n → (pair_at k).late < n
late_below n k h = go (either (ltb (pair_at k).late n))
  where
    go : T (ltb (pair_at k).late n) ⊎ T (not (ltb (pair_at k).late n)) → (pair_at k).late < n
    go (inl t) = ltb→lt (pair_at k).late n t
    go (inr t) = absurd (omega (arith, (at_place k).place, pairs-mono n (pair_at k).late (nltb→le (pair_at k).late n t)))

-- ---- the test of a pair
pub clash-ordered : (p a b : ℕ) → b < a → clash p a b ≡ has p (pairs a + b)
unfolding clash
clash-ordered p a b h = rw (lt-ltb b a h) refl

pub clash-turned : (p a b : ℕ) → b < a → clash p b a ≡ has p (pairs a + b)
unfolding clash
clash-turned p a b h = rw (le-ltb a b (omega arith), lt-ltb b a h) refl

-- neither is the later one
pub clash-alone : (p a b : ℕ) → a ≤ b → b ≤ a → clash p a b ≡ false
unfolding clash
clash-alone p a b h k = rw (le-ltb b a h, le-ltb a b k) refl

pub clash-self : (p a : ℕ) → clash p a a ≡ false
clash-self p a = clash-alone p a a (omega arith) (omega arith)

pub clash-sym : (p a b : ℕ) → clash p a b ≡ clash p b a
clash-sym p a b = go (either (ltb b a)) (either (ltb a b))
  where
    go : T (ltb b a) ⊎ T (not (ltb b a)) → T (ltb a b) ⊎ T (not (ltb a b)) → clash p a b ≡ clash p b a
    go (inl t) u = let h = ltb→lt b a t in clash-ordered p a b h ∙ sym (clash-turned p a b h)
    go (inr t) (inl u) = let h = ltb→lt a b u in clash-turned p b a h ∙ sym (clash-ordered p b a h)
    go (inr t) (inr u) = let e : a ≡ b = omega (arith, nltb→le b a t, nltb→le a b u) in rw e refl

-- ---- six receptions at most
pub pairs-six : (n : ℕ) → n ≤ 6 → pairs n ≤ 15
unfolding pairs
pairs-six n h = pairs-mono n 6 h

-- as the code finds them
pub pairs-code : (n : ℕ) → (n * n - n) / 2 ≡ pairs n
pairs-code n = omega (arith, twice n)
