-- A removal keeps the stored numbers true: it takes a failing pair from each that fails with the one that goes, and no other. Assumes nothing.
use mathlib.Core.Path.{◌≡◌, refl, subst}
use mathlib.Core.Logic.{◌⊎◌, inl, inr, ◌≢◌}
use mathlib.Core.Bool.{Bool, true, false, not, cond, ◌&&◌}
use Prim.Native.Nat.{ℕ, ◌+◌, ◌<◌}
use native.Mathlib.Omega.{arith}
use lib.Dec.{T, T_not, eqb}
use Rattle.sets.specs.Sets.{Subset, without, count}
use Rattle.sets.proofs.Tests.{either, T→eq, F→eq, eq→T, eq→F, and_l, and_r, and_both, same-T, eq→eqb, ne→neqb}
use Rattle.sets.proofs.Belonging.{in_without}
use Rattle.sets.proofs.Counting.{count_same, count-without}
use Rattle.screen.specs.Screen.{clashes}
use Rattle.screen.specs.State.{Held, Counted, lessened, removed, RemovalKeepsCounts}

-- ---- the clash count of i before and after w goes
module _ (n : ℕ) (fails : ℕ → ℕ → Bool) (A : Subset) (w : ℕ) (l : w < n) (t : T (A w)) (i : ℕ) where
  abbrev pairs : Subset
  pairs j = A j && fails i j

  abbrev rest : Subset
  rest j = without A w j && fails i j

  without-pairs : (j : ℕ) → without pairs w j ≡ rest j
  without-pairs j = same-T (without pairs w j) (rest j) (
      λ u. let h = (in_without pairs w j).0 u in
      and_both (without A w j) (fails i j) ((in_without A w j).1 (and_l (A j) (fails i j) h.0, h.1)) (and_r (A j) (fails i j) h.0)
      ) (
      λ u. let h = (in_without A w j).0 (and_l (without A w j) (fails i j) u) in
      (in_without pairs w j).1 (and_both (A j) (fails i j) h.0 (and_r (without A w j) (fails i j) u), h.1)
      )

  same-pairs : fails i w ≡ false → (j : ℕ) → pairs j ≡ rest j
  same-pairs f j = same-T (pairs j) (rest j) (
      λ u. let v = and_r (A j) (fails i j) u in
      and_both (without A w j) (fails i j) ((in_without A w j).1 (and_l (A j) (fails i j) u, other v)) v
      ) (λ u. and_both (A j) (fails i j) ((in_without A w j).0 (and_l (without A w j) (fails i j) u)).0 (and_r (without A w j) (fails i j) u))
    where
      other : T (fails i j) → j ≢ w
      other v e = T_not (fails i w) (eq→F f) (subst (λ (x : ℕ). T (fails i x)) e v)

  pub clashes-fewer : clashes n fails A i ≡ cond (fails i w) 1 0 + clashes n fails (without A w) i
  unfolding clashes
  clashes-fewer = go (fails i w) refl
    where
      go : (b : Bool) → fails i w ≡ b → count pairs n ≡ cond b 1 0 + count rest n
      go true f =
          let taken = count-without pairs n w l (and_both (A w) (fails i w) t (eq→T f)) in
          omega (arith, taken, count_same (without pairs w) rest n (λ j k. without-pairs j))
      go false f = omega (arith, count_same pairs rest n (λ j k. same-pairs f j))

-- ---- the numbers before and after
pub still-true : (n : ℕ) (fails : ℕ → ℕ → Bool) (s : Held) (w : ℕ) → w < n → T (s.alive w) → Counted n fails s → Counted n fails (removed fails s w)
unfolding removed lessened
still-true n fails s w l t c = record { recount = still; gone = out }
  where
    still : (i : ℕ) → T (without s.alive w i) → lessened fails s.alive w s.counts i ≡ clashes n fails (without s.alive w) i
    still i h =
        let u = (in_without s.alive w i).0 h in
        rw (F→eq (eqb i w) (ne→neqb i w u.1), T→eq (s.alive i) u.0)
        (omega (arith, c.recount i u.0, clashes-fewer n fails s.alive w l t i))

    out : (i : ℕ) → T (not (without s.alive w i)) → lessened fails s.alive w s.counts i ≡ 0
    out i h = go (either (eqb i w)) (either (s.alive i))
      where
        go : T (eqb i w) ⊎ T (not (eqb i w)) → T (s.alive i) ⊎ T (not (s.alive i)) → lessened fails s.alive w s.counts i ≡ 0
        go (inl e) a = rw (T→eq (eqb i w) e) refl
        go (inr d) (inl a) =
            let stays = (in_without s.alive w i).1 (a, λ e. T_not (eqb i w) d (eq→eqb i w e)) in
            absurd (T_not (without s.alive w i) h stays)
        go (inr d) (inr a) = rw (F→eq (eqb i w) d) (omega (arith, c.gone i a))

pub removal-keeps-counts : RemovalKeepsCounts
removal-keeps-counts = still-true
