-- The members of a set as an ascending list in an array: what one index adds, and that the list has the members and nothing else. Assumes nothing.
use mathlib.Core.Path.{◌≡◌, refl, sym, ap, subst, ◌∙◌}
use mathlib.Core.Logic.{◌⊎◌, inl, inr}
use mathlib.Core.Bool.{Bool, true, false}
use mathlib.Core.List.{List}
use Prim.Native.Nat.{ℕ, zero, suc, ◌≤◌, ◌<◌}
use native.Mathlib.Omega.{arith}
use lib.Dec.{T}
use lib.ListN.{length, get_or, set, length-set}
use lib.Seq.{get_or-set_same, get_or-set_other}
use Rattle.sets.specs.Sets.{Subset, count, members_to}
use Rattle.sets.proofs.Tests.{lt-suc-cases}
use Rattle.sets.proofs.Counting.{count-le}

-- a member is added at the place that the count before it gives, and counted
pub adds : (S : Subset) (index : List ℕ) (i : ℕ) → S i ≡ true → (count S (suc i) ≡ suc (count S i))
    × (members_to S index (suc i) ≡ set (members_to S index i) (count S i) i)
unfolding count members_to
adds S index i e = (rw e (omega arith), rw e refl)

-- any other index changes nothing
pub skips : (S : Subset) (index : List ℕ) (i : ℕ) → S i ≡ false → (count S (suc i) ≡ count S i) × (members_to S index (suc i) ≡ members_to S index i)
unfolding count members_to
skips S index i e = (rw e (omega arith), rw e refl)

pub members-length : (S : Subset) (index : List ℕ) (n : ℕ) → length (members_to S index n) ≡ length index
unfolding members_to
members-length S index zero = refl
members-length S index (suc i) = go (S i) refl (members-length S index i)
  where
    go : (b : Bool) → S i ≡ b → length (members_to S index i) ≡ length index → length (members_to S index (suc i)) ≡ length index
    go true e h = ap length (adds S index i e).1 ∙ length-set (members_to S index i) (count S i) i ∙ h
    go false e h = ap length (skips S index i e).1 ∙ h

-- entry a of the list is below n and in S
pub record Lists (S : Subset) (n i : ℕ) : Type 0 where
  pub below : i < n
  pub member : T (S i)

later : (S : Subset) (n i : ℕ) → Lists S n i → Lists S (suc n) i
later S n i h = record { below = omega (arith, h.below); member = h.member }

pub lists : (S : Subset) (index : List ℕ) (n a : ℕ) → n ≤ length index → a < count S n → Lists S n (get_or (members_to S index n) a 0)
unfolding count
lists S index zero a l h = absurd (omega arith)
lists S index (suc i) a l h = go (S i) refl (λ u. lists S index i a (omega arith) u)
  where
    known : List ℕ
    known = members_to S index i

    last : a ≡ count S i → get_or (set known (count S i) i) a 0 ≡ i
    last e = rw e (get_or-set_same known (count S i) i 0 (omega (arith, count-le S i, members-length S index i)))

    add : S i ≡ true → (a ≡ count S i) ⊎ (a < count S i) → (a < count S i → Lists S i (get_or known a 0))
        → Lists S (suc i) (get_or (set known (count S i) i) a 0)
    add e (inl s) f = subst (Lists S (suc i)) (sym (last s)) (record { below = omega arith; member = subst T (sym e) tt })
    add e (inr u) f = subst (Lists S (suc i)) (sym (get_or-set_other known (count S i) a i 0 (λ e. omega arith))) (later S i (get_or known a 0) (f u))

    go : (b : Bool) → S i ≡ b → (a < count S i → Lists S i (get_or known a 0)) → Lists S (suc i) (get_or (members_to S index (suc i)) a 0)
    go true e f =
        let step = adds S index i e in
        subst (λ w. Lists S (suc i) (get_or w a 0)) (sym step.1) (add e (lt-suc-cases a (count S i) (subst (λ m. a < m) step.0 h)) f)
    go false e f =
        let step = skips S index i e in
        subst (λ w. Lists S (suc i) (get_or w a 0)) (sym step.1) (later S i (get_or known a 0) (f (subst (λ m. a < m) step.0 h)))

-- each member stands somewhere in it
pub record Placed (S : Subset) (index : List ℕ) (n i : ℕ) : Type 0 where
  pub place : ℕ
  pub below : place < count S n
  pub there : get_or (members_to S index n) place 0 ≡ i

pub placed : (S : Subset) (index : List ℕ) (n i : ℕ) → n ≤ length index → i < n → T (S i) → Placed S index n i
unfolding count
placed S index zero i l h t = absurd (omega arith)
placed S index (suc k) i l h t = go (S k) refl (lt-suc-cases i k h) (λ u. placed S index k i (omega arith) u t)
  where
    known : List ℕ
    known = members_to S index k

    go : (b : Bool) → S k ≡ b → (i ≡ k) ⊎ (i < k) → (i < k → Placed S index k i) → Placed S index (suc k) i
    go true e (inl s) f =
        let step = adds S index k e in
        record {
          place = count S k;
          below = omega (arith, step.0);
          there = ap (λ w. get_or w (count S k) 0) step.1
              ∙ get_or-set_same known (count S k) k 0 (omega (arith, count-le S k, members-length S index k)) ∙ sym s;
        }
    go true e (inr u) f =
        let step = adds S index k e in
        let p = f u in
        record {
          place = p.place;
          below = omega (arith, step.0, p.below);
          there = ap (λ w. get_or w p.place 0) step.1 ∙ get_or-set_other known (count S k) p.place k 0 (λ e. omega (arith, p.below)) ∙ p.there;
        }
    go false e (inl s) f = absurd (subst T (ap S s ∙ e) t)
    go false e (inr u) f =
        let step = skips S index k e in
        let p = f u in
        record { place = p.place; below = omega (arith, step.0, p.below); there = ap (λ w. get_or w p.place 0) step.1 ∙ p.there }
