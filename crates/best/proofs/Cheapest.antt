-- The choice by costs that are numbers is the first of the least: `cheaper` is `lt` there, which ranks numbers. Assumes nothing.
use mathlib.Core.Path.{◌≡◌, refl, sym, ap, ap₂, subst, ◌∙◌}
use mathlib.Core.Option.{Option, none, some}
use mathlib.Core.Bool.{Bool, true, false, not, cond}
use Prim.Native.Nat.{ℕ, zero, suc, ◌<◌}
use native.Mathlib.Omega.{arith}
use lib.Dec.{T, not_T}
use lib.Ieee.{Float, lt, le, is_nan}
use Rattle.sets.specs.Choice.{consider, choose, FirstBest, IsChoice, Ranks}
use Rattle.sets.proofs.Tests.{eq→T, same-T}
use Rattle.sets.proofs.Choosing.{choose-is, choice-unique}
use Rattle.best.proofs.Order.{lt-split, lt-asym, le_of_not_lt, lt_of_not_le, le-lt}

-- a choice is a candidate below k, whatever beats what
pub chosen : (p : ℕ → Bool) (beats : ℕ → ℕ → Bool) (k i : ℕ) → choose p beats k ≡ some i → T (p i) × (i < k)
unfolding choose consider
chosen p beats zero i e = absurd (let z : ◌≡◌ {A = ℕ} 0 1 = cc in omega arith)
chosen p beats (suc k) i e = go (p k) refl (choose p beats k) (λ j q. chosen p beats k j q) e
  where
    pick : (x : Bool) (b : ℕ) → T (p k) → T (p b) × (b < k) → cond x (some k) (some b) ≡ some i → T (p i) × (i < suc k)
    pick true b t u q = let w : k ≡ i = cc in (subst (λ (j : ℕ). T (p j)) w t, omega (arith, w))
    pick false b t u q = let w : b ≡ i = cc in (subst (λ (j : ℕ). T (p j)) w u.0, omega (arith, w, u.1))

    go : (t : Bool) → p k ≡ t → (o : Option ℕ) → ((j : ℕ) → o ≡ some j → T (p j) × (j < k)) → consider beats t k o ≡ some i → T (p i) × (i < suc k)
    go false f o h q = let u = h i q in (u.0, omega (arith, u.1))
    go true f none h q = let w : k ≡ i = cc in (subst (λ (j : ℕ). T (p j)) w (eq→T f), omega (arith, w))
    go true f (some b) h q = pick (beats k b) b (eq→T f) (h b refl) q

-- only which are candidates below k, and how those beat each other, matters
pub same-choice : (p q : ℕ → Bool) (b c : ℕ → ℕ → Bool) (k : ℕ) → ((j : ℕ) → j < k → p j ≡ q j)
    → ((i j : ℕ) → i < k → j < k → T (p i) → T (p j) → b i j ≡ c i j) → choose p b k ≡ choose q c k
unfolding choose consider
same-choice p q b c zero e f = refl
same-choice p q b c (suc k) e f =
    go (p k) refl (choose p b k) refl
    ∙ ap₂ (λ (t : Bool) (o : Option ℕ). consider c t k o) (e k (omega arith))
    (same-choice p q b c k (λ j l. e j (omega arith)) (λ i j l m. f i j (omega arith) (omega arith)))
  where
    go : (t : Bool) → p k ≡ t → (o : Option ℕ) → choose p b k ≡ o → consider b t k o ≡ consider c t k o
    go false h o d = refl
    go true h none d = refl
    go true h (some j) d = let u = chosen p b k j d in
        ap (λ (x : Bool). cond x (some k) (some j)) (f k j (omega arith) (omega (arith, u.1)) (eq→T h) u.0)

module _ (p : ℕ → Bool) (cost : ℕ → Float) (number : (i : ℕ) → T (p i) → T (not (is_nan (cost i)))) where
  abbrev less : ℕ → ℕ → Bool
  less i j = lt (cost i) (cost j)

  turned : (i j : ℕ) → T (p i) → T (p j) → not (le (cost j) (cost i)) ≡ less i j
  turned i j a b = same-T (not (le (cost j) (cost i))) (less i j) (λ h. lt_of_not_le (cost i) (cost j) (number i a) (number j b) h)
      (λ h. not_T (le (cost j) (cost i)) (λ l. le-lt (cost i) (cost j) l h))

  ranks : Ranks p less
  ranks = record { asym = λ i j h k. lt-asym (cost i) (cost j) h k; split = λ i j k t h. lt-split (cost i) (cost j) (cost k) (number j t) h }

  -- i is the first of those below k with the least cost
  pub record Cheapest (k i : ℕ) : Type 0 where
    pub below : i < k
    pub candidate : T (p i)
    pub cheapest : (j : ℕ) → j < k → T (p j) → T (le (cost i) (cost j))
    pub earliest : (j : ℕ) → j < i → T (p j) → T (lt (cost i) (cost j))

  abbrev choice : ℕ → Option ℕ
  choice k = choose p (λ i j. not (le (cost j) (cost i))) k

  is-choice : (k : ℕ) (o : Option ℕ) → choice k ≡ o → IsChoice p less k o
  is-choice k o e = subst (IsChoice p less k) (sym (same-choice p p (λ i j. not (le (cost j) (cost i))) less k (λ j l. refl) (λ i j l m. turned i j))
      ∙ e) (choose-is p less ranks k)

  pub cheapest-of : (k i : ℕ) → choice k ≡ some i → Cheapest k i
  cheapest-of k i e =
      let f = is-choice k (some i) e in
      record {
        below = f.below;
        candidate = f.candidate;
        cheapest = λ j l t. le_of_not_lt (cost j) (cost i) (number j t) (number i f.candidate) (f.unbeaten j l t);
        earliest = f.lowest;
      }

  pub none_of : (k : ℕ) → choice k ≡ none → (j : ℕ) → j < k → T (not (p j))
  none_of k e = is-choice k none e

  -- and there is one choice only
  one_choice : (k : ℕ) (o : Option ℕ) → IsChoice p less k o → choice k ≡ o
  one_choice k o h = choice-unique p less k (choice k) o (is-choice k (choice k) refl) h

  pub of-cheapest : (k i : ℕ) → Cheapest k i → choice k ≡ some i
  of-cheapest k i h = one_choice k (some i) first
    where
      first : FirstBest p less k i
      first = record {
        below = h.below;
        candidate = h.candidate;
        unbeaten = λ j l t. not_T (lt (cost j) (cost i)) (λ u. le-lt (cost j) (cost i) (h.cheapest j l t) u);
        lowest = h.earliest;
      }

  pub of_none : (k : ℕ) → ((j : ℕ) → j < k → T (not (p j))) → choice k ≡ none
  of_none k h = one_choice k none h
