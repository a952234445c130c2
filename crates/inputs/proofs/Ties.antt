-- Receptions that ascend have their places and their identities in one order, and those of inputs that pass the checks ascend. Assumes nothing.
use Prim.Native.Nat.{ℕ, ◌<◌, ◌≤◌}
use mathlib.Core.Path.{◌≡◌, refl, sym, subst, ◌∙◌}
use mathlib.Core.Logic.{◌⊎◌, inl, inr}
use mathlib.Core.Bool.{Bool, true, false}
use native.Mathlib.Omega.{arith}
use native.Mathlib.Nat.{eq-or-lt_of_le}
use borrow.Author.Tests.{ltb-true, ltb-false}
use lib.Dec.{ltb}
use Rattle.receptions.specs.declared.ObservationId.{ObservationId}
use Rattle.receptions.specs.declared.Reception.{Reception}
use Rattle.receptions.specs.Identities.{before}
use Rattle.receptions.proofs.Meaning.{identities-ordered}
use Rattle.inputs.specs.InDomain.{Ascending, TiesFollowOrder}
use Rattle.inputs.proofs.Sound.{ascending}

not_itself : (a : ObservationId) → before a a ≡ true → ⊥
not_itself a e = let z : ◌≡◌ {A = Bool} true false = sym e ∙ identities-ordered.irreflexive a in let q : ◌≡◌ {A = ℕ} 0 1 = cc in omega (arith, q)

module _ (at : ℕ → Reception) (n : ℕ) (up : Ascending at n) (i j : ℕ) (li : i < n) (e : before (at i).id (at j).id ≡ true) where
  not-above : j ≤ i → ⊥
  not-above h = go (eq-or-lt_of_le h)
    where
      go : (j ≡ i) ⊎ (j < i) → ⊥
      go (inl q) = not_itself (at i).id (subst (λ (k : ℕ). before (at i).id (at k).id ≡ true) q e)
      go (inr q) = not_itself (at i).id (identities-ordered.transitive (at i).id (at j).id (at i).id e (up j i q li))

  lower : i < j
  lower = go (ltb i j) refl
    where
      go : (b : Bool) → ltb i j ≡ b → i < j
      go true q = ltb-true i j q
      go false q = absurd (not-above (ltb-false i j q))

pub ties-follow-order : TiesFollowOrder
ties-follow-order I e i j li lj = let up = ascending I e in (λ h. up i j h lj, lower I.at I.n up i j li)
