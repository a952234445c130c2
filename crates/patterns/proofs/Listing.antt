-- The patterns that leave s, listed: the members of the set of their numbers, in ascending order. Assumes nothing.
use mathlib.Core.Path.{◌≡◌, refl, sym, ap, subst, ◌∙◌}
use mathlib.Core.Logic.{◌⊎◌, inl, inr}
use mathlib.Core.Bool.{Bool, true, false}
use mathlib.Core.List.{List}
use Prim.Native.Nat.{ℕ, zero, suc, ◌^◌, ◌≤◌, ◌<◌}
use native.Mathlib.Omega.{arith}
use lib.Dec.{eqb, eqb→eq}
use lib.ListN.{get_or, length, set, replicate, length-replicate}
use lib.Seq.{get_or-set_same, get_or-set_other}
use Rattle.sets.specs.Sets.{Subset, count, members_to}
use Rattle.sets.proofs.Tests.{eq→eqb, lt-suc-cases}
use Rattle.sets.proofs.Counting.{count-le}
use Rattle.sets.proofs.Listed.{Lists, lists, placed, adds, skips, members-length}
use Rattle.patterns.specs.Patterns.{pairs, failing, survivors, leaving}
use Rattle.patterns.specs.Meaning.{CountsArePatterns}
use Rattle.patterns.proofs.Once.{is-pattern, comes-up, same_number}

-- ---- no member stands in the list of a set twice: entry a is the member before which a others are
rank : (S : Subset) (index : List ℕ) (n a : ℕ) → n ≤ length index → a < count S n → count S (get_or (members_to S index n) a 0) ≡ a
unfolding count
rank S index zero a l h = absurd (omega arith)
rank S index (suc i) a l h = go (S i) refl (λ u. rank S index i a (omega arith) u)
  where
    known : List ℕ
    known = members_to S index i

    add : (a ≡ count S i) ⊎ (a < count S i) → (a < count S i → count S (get_or known a 0) ≡ a) → count S (get_or (set known (count S i) i) a 0) ≡ a
    add (inl e) f = rw e (ap (count S) (get_or-set_same known (count S i) i 0 (omega (arith, count-le S i, members-length S index i))))
    add (inr u) f = ap (count S) (get_or-set_other known (count S i) a i 0 (λ e. omega arith)) ∙ f u

    go : (b : Bool) → S i ≡ b → (a < count S i → count S (get_or known a 0) ≡ a) → count S (get_or (members_to S index (suc i)) a 0) ≡ a
    go true e f =
        let step = adds S index i e in
        ap (λ (w : List ℕ). count S (get_or w a 0)) step.1 ∙ add (lt-suc-cases a (count S i) (subst (λ m. a < m) step.0 h)) f
    go false e f =
        let step = skips S index i e in
        ap (λ (w : List ℕ). count S (get_or w a 0)) step.1 ∙ f (subst (λ m. a < m) step.0 h)

-- ---- the statement
module _ (n s : ℕ) where
  abbrev end : ℕ
  end = 2 ^ pairs n

  -- the numbers of the patterns that leave s
  abbrev leaves : Subset
  leaves p = eqb (survivors n (failing n p)) s

  blank : List ℕ
  blank = replicate end 0

  enough : end ≤ length blank
  unfolding blank
  enough = omega (arith, length-replicate {A = ℕ} end 0)

  number_of : ℕ → ℕ
  number_of k = get_or (members_to leaves blank end) k 0

  listed : (k : ℕ) → k < count leaves end → Lists leaves end (number_of k)
  unfolding number_of
  listed k h = lists leaves blank end k enough h

  ranked : (k : ℕ) → k < count leaves end → count leaves (number_of k) ≡ k
  unfolding number_of
  ranked k h = rank leaves blank end k enough h

  somewhere
      : (fails : ℕ → ℕ → Bool) (p : ℕ) → p < end → failing n p ≡ fails → survivors n fails ≡ s
      → (k : ℕ) × (k < count leaves end) × (failing n (number_of k) ≡ fails)
  unfolding number_of
  somewhere fails p l e h =
      let q = placed leaves blank end p enough l (eq→eqb (survivors n (failing n p)) s (ap (survivors n) e ∙ h)) in
      (q.place, q.below, ap (failing n) q.there ∙ e)

pub counts-are-patterns : CountsArePatterns
unfolding leaving
counts-are-patterns n s = record {
  at = λ k. failing n (number_of n s k);
  each = λ k h. let m = listed n s k h in (is-pattern n (number_of n s k), eqb→eq (survivors n (failing n (number_of n s k))) s m.member);
  all = λ fails h e. let p = comes-up n fails h in somewhere n s fails p.0 p.1 p.2 e;
  once = λ k l a b e.
      let same = same_number n (number_of n s k) (number_of n s l) (listed n s k a).below (listed n s l b).below e in
      sym (ranked n s k a) ∙ ap (count (leaves n s)) same ∙ ranked n s l b;
}
