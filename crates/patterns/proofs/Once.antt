-- Every pattern has its number, and one number only. Assumes nothing.
use mathlib.Core.Path.{◌≡◌, refl, sym, ap, ap₂, subst, fun_ext, ◌∙◌}
use mathlib.Core.Logic.{◌⊎◌, inl, inr}
use mathlib.Core.Bool.{Bool, not, ◌&&◌}
use Prim.Native.Nat.{ℕ, suc, ◌+◌, ◌^◌, ◌≤◌, ◌<◌}
use native.Mathlib.Omega.{arith}
use lib.Dec.{T, not_T, ltb, ltb→lt, lt→ltb, nltb→le}
use Rattle.sets.specs.Sets.{Subset}
use Rattle.sets.specs.Mask.{has, mask_of}
use Rattle.sets.proofs.Tests.{either, T→eq, F→eq, and_l, and_r, same-T}
use Rattle.sets.proofs.Masks.{mask-same, mask-back, mask_lt, set-of-mask}
use Rattle.patterns.specs.Patterns.{pairs, clash, failing}
use Rattle.patterns.specs.Meaning.{Pattern, EachIsPattern, EveryPatternComesUp, NoPatternTwice}
use Rattle.patterns.proofs.Places.{pairs-mono, pair_at, at_place, pair-at, late_below, clash-ordered, clash-turned, clash-self, clash-sym}

-- ---- the failing pairs of the first n
module _ (n p i j : ℕ) where
  pub failing-in : i < n → j < n → failing n p i j ≡ clash p i j
  unfolding failing
  failing-in a b = rw (T→eq (ltb i n) (lt→ltb i n a), T→eq (ltb j n) (lt→ltb j n b)) refl

  pub failing-within : T (failing n p i j) → (i < n) × (j < n)
  unfolding failing
  failing-within t =
      let rest = and_r (ltb i n) (ltb j n && clash p i j) t in
      (ltb→lt i n (and_l (ltb i n) (ltb j n && clash p i j) t), ltb→lt j n (and_l (ltb j n) (clash p i j) rest))

  failing-clash : T (failing n p i j) → T (clash p i j)
  failing-clash t = let w = failing-within t in subst T (failing-in w.0 w.1) t

failing-turned : (n p i j : ℕ) → T (failing n p i j) → T (failing n p j i)
failing-turned n p i j t =
    let w = failing-within n p i j t in
    subst T (clash-sym p i j ∙ sym (failing-in n p j i w.1 w.0)) (failing-clash n p i j t)

pub is-pattern : (n p : ℕ) → Pattern n (failing n p)
is-pattern n p = record {
  either = λ i j. same-T (failing n p i j) (failing n p j i) (failing-turned n p i j) (failing-turned n p j i);
  self = λ i. F→eq (failing n p i i) (not_T (failing n p i i) (λ t. subst T (clash-self p i) (failing-clash n p i i t)));
  within = failing-within n p;
}

-- ---- the number of a relation
module _ (n : ℕ) (R : ℕ → ℕ → Bool) (h : Pattern n R) where
  failed : Subset
  failed k = ltb k (pairs n) && R (pair_at k).late (pair_at k).early

  number : ℕ
  number = mask_of failed (pairs n)

  digits : has number ≡ failed
  unfolding failed number
  digits = set-of-mask failed (pairs n) (λ k t. ltb→lt k (pairs n) (and_l (ltb k (pairs n)) (R (pair_at k).late (pair_at k).early) t))

  -- the bit of the pair a, b, b before a
  digit : (a b : ℕ) → b < a → a < n → has number (pairs a + b) ≡ R a b
  unfolding failed pairs
  digit a b l m =
      let q = pair-at a b l in
      let k : pairs a + a ≤ pairs n = pairs-mono (suc a) n (omega arith) in
      ap (λ (S : Subset). S (pairs a + b)) digits
      ∙ rw (T→eq (ltb (pairs a + b) (pairs n)) (lt→ltb (pairs a + b) (pairs n) (omega arith))) (ap₂ R q.0 q.1)

  stands-in : (i j : ℕ) → i < n → j < n → clash number i j ≡ R i j
  stands-in i j a b = go (either (ltb j i)) (either (ltb i j))
    where
      go : T (ltb j i) ⊎ T (not (ltb j i)) → T (ltb i j) ⊎ T (not (ltb i j)) → clash number i j ≡ R i j
      go (inl t) u = let l = ltb→lt j i t in clash-ordered number i j l ∙ digit i j l a
      go (inr t) (inl u) = let l = ltb→lt i j u in clash-turned number j i l ∙ digit j i l b ∙ h.either j i
      go (inr t) (inr u) = let e : i ≡ j = omega (arith, nltb→le j i t, nltb→le i j u) in rw e (clash-self number j ∙ sym (h.self j))

  stands-for : failing n number ≡ R
  stands-for = fun_ext (λ (i : ℕ). fun_ext (λ (j : ℕ). same-T (failing n number i j) (R i j)
      (λ t. let w = failing-within n number i j t in subst T (stands-in i j w.0 w.1) (failing-clash n number i j t))
      (λ t. let w = h.within i j t in subst T (sym (stands-in i j w.0 w.1) ∙ sym (failing-in n number i j w.0 w.1)) t)))

pub comes-up : (n : ℕ) (fails : ℕ → ℕ → Bool) → Pattern n fails → (p : ℕ) × (p < 2 ^ pairs n) × (failing n p ≡ fails)
unfolding number
comes-up n fails h = (number n fails h, mask_lt (failed n fails h) (pairs n), stands-for n fails h)

-- ---- two numbers of one relation have the same digits
same-digit : (n p q k : ℕ) → failing n p ≡ failing n q → k < pairs n → has p k ≡ has q k
same-digit n p q k e l =
    let a = (pair_at k).late in
    let b = (pair_at k).early in
    let at = at_place k in
    let m = late_below n k l in
    let bit : (x : ℕ) → has x k ≡ failing n x a b =
    λ x. ap (has x) (sym at.place) ∙ sym (clash-ordered x a b at.ordered) ∙ sym (failing-in n x a b m (omega (arith, at.ordered))) in
    bit p ∙ ap (λ (R : ℕ → ℕ → Bool). R a b) e ∙ sym (bit q)

pub same_number : (n p q : ℕ) → p < 2 ^ pairs n → q < 2 ^ pairs n → failing n p ≡ failing n q → p ≡ q
same_number n p q a b e =
    sym (mask-back (pairs n) p a) ∙ mask-same (has p) (has q) (pairs n) (λ k l. same-digit n p q k e l) ∙ mask-back (pairs n) q b

-- ---- the statements
pub each-is-pattern : EachIsPattern
each-is-pattern = is-pattern

pub every-pattern-comes-up : EveryPatternComesUp
every-pattern-comes-up = comes-up

pub no-pattern-twice : NoPatternTwice
no-pattern-twice = same_number
