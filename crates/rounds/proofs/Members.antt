-- What a fit over some of the kept receptions reads: z and noise of kept ones only, and the clock entries on or right of
-- the diagonal between two of them. The list of those in it ascends, so no entry left of it is asked for. Assumes nothing.
use Rattle.std.proofs.Common.{◌≡◌, ℕ, zero, suc, ◌+◌, ◌-◌, ◌<◌, ◌≤◌, Bool, true, false, cond, T, eqb, ◌⊎◌, List, length, get_or, set, replicate, refl, ap, subst, ap₂, inl, inr, arith, get_or-set_other, get_or-set_same}
use lib.Ieee.{Float}
use Rattle.binary64.specs.Steps.{◌⊕◌}
use Rattle.dense.specs.Entries.{nth, at, put}
use Rattle.dense.specs.Factor.{cholesky}
use Rattle.linalg.specs.Methods.{zeros}
use Rattle.sets.specs.Sets.{Subset, count, members_to}
use Rattle.sets.proofs.Tests.{lt-suc-cases}
use Rattle.sets.proofs.Counting.{count-le}
use Rattle.sets.proofs.Listed.{adds, skips, members-length, lists}
use Rattle.problem.specs.Gathered.{pick, gather_to}
use Rattle.whitening.specs.Covariance.{shared, covariance_row_to, covariance_to, whitener}
use Rattle.best.specs.OfProblem.{subset, subset_z}

-- ---- the list of a set's members ascends
pub ascending : (S : Subset) (index : List ℕ) (n a b : ℕ) → n ≤ length index → a < b → b < count S n
    → get_or (members_to S index n) a 0 < get_or (members_to S index n) b 0
unfolding count
ascending S index zero a b l h m = absurd (omega arith)
ascending S index (suc i) a b l h m = go (S i) refl (λ u. ascending S index i a b (omega arith) h u)
  where
    known : List ℕ
    known = members_to S index i

    kept_at : (c : ℕ) → c < count S i → get_or (set known (count S i) i) c 0 ≡ get_or known c 0
    kept_at c u = get_or-set_other known (count S i) c i 0 (λ e. omega arith)

    add : (b ≡ count S i) ⊎ (b < count S i) → (b < count S i → get_or known a 0 < get_or known b 0)
        → get_or (set known (count S i) i) a 0 < get_or (set known (count S i) i) b 0
    add (inl e) f =
        let last : get_or (set known (count S i) i) b 0 ≡ i =
        rw e (get_or-set_same known (count S i) i 0 (omega (arith, count-le S i, members-length S index i))) in
        let below = (lists S index i a (omega arith) (omega arith)).below in
        rw (last, kept_at a (omega arith)) below
    add (inr u) f = rw (kept_at a (omega arith), kept_at b u) (f u)

    go : (t : Bool) → S i ≡ t → (b < count S i → get_or known a 0 < get_or known b 0)
        → get_or (members_to S index (suc i)) a 0 < get_or (members_to S index (suc i)) b 0
    go true e f = let step = adds S index i e in rw step.1 (add (lt-suc-cases b (count S i) (subst (λ (x : ℕ). b < x) step.0 m)) f)
    go false e f = let step = skips S index i e in rw step.1 (f (subst (λ (x : ℕ). b < x) step.0 m))

-- ---- gathered values, and the covariance, by what is read of them
gather-same : (v w : List Float) (index : List ℕ) (out : List Float) (k : ℕ) → ((a : ℕ) → a < k → nth v (pick index a) ≡ nth w (pick index a))
    → gather_to v index out k ≡ gather_to w index out k
unfolding gather_to
gather-same v w index out zero h = refl
gather-same v w index out (suc a) h =
    ap₂ (λ (l : List Float) (x : Float). set l a x) (gather-same v w index out a (λ b l. h b (omega arith))) (h a (omega arith))

module _ (c d : List Float) (n : ℕ) (x y : List Float) (index : List ℕ) (k : ℕ)
    (E : (a b : ℕ) → a ≤ b → b < k → shared c n x index a b ≡ shared d n y index a b) where
  row_same : (a : ℕ) (s t : List Float) → s ≡ t → (m : ℕ) → a + m ≤ k → covariance_row_to c n x index k a s m ≡ covariance_row_to d n y index k a t m
  unfolding covariance_row_to
  row_same a s t e zero h = e
  row_same a s t e (suc m) h =
      ap₂ (λ (v : Float) (l : List Float). put (put l k a (a + m) v) k (a + m) a v) (E a (a + m) (omega arith) (omega arith))
      (row_same a s t e m (omega arith))

  covariance-same : (s : List Float) (a : ℕ) → a ≤ k → covariance_to c n x index k s a ≡ covariance_to d n y index k s a
  unfolding covariance_to
  covariance-same s zero h = refl
  covariance-same s (suc a) h =
      row_same a (covariance_to c n x index k s a) (covariance_to d n y index k s a) (covariance-same s a (omega arith)) (k - a) (omega arith)

  whitener-same : (l : List Float) → whitener c n x index k l ≡ whitener d n y index k l
  unfolding whitener
  whitener-same l = ap (λ (s : List Float). cholesky s k l) (covariance-same zeros k (omega arith))

-- ---- over a set S of kept receptions K
module _ (K S : Subset) (W : (j : ℕ) → T (S j) → T (K j)) (n : ℕ) (N : n ≤ 32) where
  abbrev index : List ℕ
  index = subset n S

  abbrev k : ℕ
  k = count S n

  reads : (a : ℕ) → a < k → T (K (pick index a))
  reads a h = W (pick index a) (lists S (replicate 32 0) n a N h).member

  ordered : (a b : ℕ) → a ≤ b → b < k → pick index a ≤ pick index b
  ordered a b h l = go (lt-suc-cases a b (omega arith))
    where
      go : (a ≡ b) ⊎ (a < b) → pick index a ≤ pick index b
      go (inl e) = rw e (omega arith)
      go (inr u) = omega (arith, ascending S (replicate 32 0) n a b N u l)

  pub z-same : (z y : List Float) → ((i : ℕ) → T (K i) → nth z i ≡ nth y i) → subset_z z n S ≡ subset_z y n S
  z-same z y e = gather-same z y index _ k (λ a h. e (pick index a) (reads a h))

  pub factor-same : (c d x y : List Float) → ((i j : ℕ) → i ≤ j → T (K i) → T (K j) → at c n i j ≡ at d n i j)
      → ((i : ℕ) → T (K i) → nth x i ≡ nth y i) → whitener c n x index k zeros ≡ whitener d n y index k zeros
  unfolding shared
  factor-same c d x y f e = whitener-same c d n x y index k
      (λ a b h l. ap₂ (λ (v w : Float). cond (eqb a b) (v ⊕ w) v)
      (f (pick index a) (pick index b) (ordered a b h l) (reads a (omega arith)) (reads b l)) (e (pick index a) (reads a (omega arith)))) zeros
