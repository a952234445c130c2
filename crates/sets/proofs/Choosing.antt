-- The pass finds the first best, there is one at most, and how code follows the pass by an index. Assumes nothing.
use mathlib.Core.Path.{◌≡◌, refl, sym, ap, ap₂, subst, ◌∙◌}
use mathlib.Core.Logic.{◌⊎◌, inl, inr}
use mathlib.Core.Option.{Option, none, some}
use mathlib.Core.Bool.{Bool, true, false, not, cond, ◌&&◌, ◌||◌}
use Prim.Native.Nat.{ℕ, zero, suc, ◌+◌, ◌≤◌, ◌<◌}
use native.Mathlib.Omega.{arith}
use native.Mathlib.Numerals.{add-one}
use lib.Dec.{T, T_not, not_T, ltb, leb, ltb→lt, nltb→le}
use borrow.Author.Tests.{le-leb, lt-leb}
use Rattle.sets.specs.Choice.{consider, choose, FirstBest, IsChoice, Ranks, PassFindsChoice, OneChoice}
use Rattle.sets.proofs.Tests.{either, eq→T, eq→F, lt-suc-cases, neither-below}

-- ---- the pass finds the choice
module _ (p : ℕ → Bool) (beats : ℕ → ℕ → Bool) (R : Ranks p beats) where
  unbeaten-self : (i : ℕ) → T (not (beats i i))
  unbeaten-self i = not_T (beats i i) (λ h. R.asym i i h h)

  -- a fact of each candidate below k, and of k, is one of each below suc k
  up_to : (Q : ℕ → Type 0) (k : ℕ) → ((j : ℕ) → j < k → T (p j) → Q j) → (T (p k) → Q k) → (j : ℕ) → j < suc k → T (p j) → Q j
  up_to Q k h here j l t = elim (lt-suc-cases j k l) [ inl e ↦ subst Q (sym e) (here (subst (λ (x : ℕ). T (p x)) e t)) | inr q ↦ h j q t ]

  -- k is no candidate
  skip : (k : ℕ) (o : Option ℕ) → T (not (p k)) → IsChoice p beats k o → IsChoice p beats (suc k) o
  skip k none f h = λ j l. elim (lt-suc-cases j k l) [ inl e ↦ subst (λ (x : ℕ). T (not (p x))) (sym e) f | inr q ↦ h j q ]
  skip k (some i) f h = record {
    below = omega (arith, h.below);
    candidate = h.candidate;
    lowest = h.lowest;
    unbeaten = up_to (λ (j : ℕ). T (not (beats j i))) k h.unbeaten (λ t. absurd (T_not (p k) f t));
  }

  -- k is the first candidate
  begin : (k : ℕ) → T (p k) → IsChoice p beats k none → IsChoice p beats (suc k) (some k)
  begin k t h = record {
    below = omega arith;
    candidate = t;
    lowest = λ j l u. absurd (T_not (p j) (h j l) u);
    unbeaten = up_to (λ (j : ℕ). T (not (beats j k))) k (λ j l u. absurd (T_not (p j) (h j l) u)) (λ u. unbeaten-self k);
  }

  -- k beats the choice so far
  take : (k b : ℕ) → T (p k) → FirstBest p beats k b → T (beats k b) → FirstBest p beats (suc k) k
  take k b t h w = record {
    below = omega arith;
    candidate = t;
    lowest = λ j l u. elim (R.split k j b u w) [ inl v ↦ v | inr v ↦ absurd (T_not (beats j b) (h.unbeaten j l u) v) ];
    unbeaten = up_to (λ (j : ℕ). T (not (beats j k))) k (λ j l u. not_T (beats j k) (λ v. less j l u (R.split j b k h.candidate v)))
        (λ u. unbeaten-self k);
  }
    where
      less : (j : ℕ) → j < k → T (p j) → T (beats j b) ⊎ T (beats b k) → ⊥
      less j l u (inl v) = T_not (beats j b) (h.unbeaten j l u) v
      less j l u (inr v) = R.asym k b w v

  -- k does not
  leave : (k b : ℕ) → FirstBest p beats k b → T (not (beats k b)) → FirstBest p beats (suc k) b
  leave k b h w = record {
    below = omega (arith, h.below);
    candidate = h.candidate;
    lowest = h.lowest;
    unbeaten = up_to (λ (j : ℕ). T (not (beats j b))) k h.unbeaten (λ t. w);
  }

  considered : (k : ℕ) (t : Bool) (o : Option ℕ) → p k ≡ t → IsChoice p beats k o → IsChoice p beats (suc k) (consider beats t k o)
  unfolding consider
  considered k false o e h = skip k o (eq→F e) h
  considered k true none e h = begin k (eq→T e) h
  considered k true (some b) e h = go (beats k b) refl
    where
      go : (c : Bool) → beats k b ≡ c → IsChoice p beats (suc k) (consider beats true k (some b))
      go true w = rw w (take k b (eq→T e) h (eq→T w))
      go false w = rw w (leave k b h (eq→F w))

  passes-to : (k : ℕ) → IsChoice p beats k (choose p beats k)
  unfolding choose
  passes-to zero = λ j l. absurd (omega arith)
  passes-to (suc k) = considered k (p k) (choose p beats k) refl (passes-to k)

pub choose-is : PassFindsChoice
choose-is = passes-to

pub choice-unique : OneChoice
choice-unique p beats k none none h g = refl
choice-unique p beats k none (some i) h g = absurd (T_not (p i) (h i g.below) g.candidate)
choice-unique p beats k (some i) none h g = absurd (T_not (p i) (g i h.below) h.candidate)
choice-unique p beats k (some i) (some j) h g = ap some (neither-below i j (never i j h g) (never j i g h))
  where
    -- the later of two would beat the earlier
    never : (a b : ℕ) → FirstBest p beats k a → FirstBest p beats k b → a < b → ⊥
    never a b f s l = T_not (beats b a) (f.unbeaten b s.below s.candidate) (s.lowest a l f.candidate)
