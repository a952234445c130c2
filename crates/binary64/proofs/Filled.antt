-- The entries of `roots_to`: roots below k, and what was there from k on. Assumes nothing.
use mathlib.Core.Path.{◌≡◌, refl, sym, ◌∙◌}
use mathlib.Core.Logic.{inl, inr}
use mathlib.Core.List.{List}
use Prim.Native.Nat.{ℕ, zero, suc, ◌≤◌, ◌<◌}
use native.Mathlib.Nat.{eq-or-lt_of_le, le_of_suc-le-suc}
use native.Mathlib.Omega.{arith}
use lib.ListN.{length, get_or, length-set}
use lib.Seq.{get_or-set_same, get_or-set_other, ext_get_or}
use lib.Ieee.{Float, nan}
use Rattle.binary64.specs.Root.{root}
use Rattle.binary64.specs.Held.{roots_to}
use Rattle.binary64.proofs.Nearer.{either}

module _ (d out : List Float) where
  pub roots-length : (k : ℕ) → length (roots_to d out k) ≡ length out
  unfolding roots_to
  roots-length zero = refl
  roots-length (suc k) = length-set (roots_to d out k) k (root (get_or d k nan)) ∙ roots-length k

  pub roots-rest : (k i : ℕ) → k ≤ i → get_or (roots_to d out k) i nan ≡ get_or out i nan
  unfolding roots_to
  roots-rest zero i h = refl
  roots-rest (suc k) i h = get_or-set_other (roots_to d out k) k i (root (get_or d k nan)) nan (λ e. omega arith) ∙ roots-rest k i (omega arith)

  pub roots-at : (k i : ℕ) → i < k → i < length out → get_or (roots_to d out k) i nan ≡ root (get_or d i nan)
  unfolding roots_to
  roots-at zero i h l = absurd (omega arith)
  roots-at (suc k) i h l = elim (eq-or-lt_of_le (le_of_suc-le-suc h)) [
    | inl e ↦ rw e (get_or-set_same (roots_to d out k) k (root (get_or d k nan)) nan (rw roots-length (rw e at l)))
    | inr g ↦ get_or-set_other (roots_to d out k) k i (root (get_or d k nan)) nan (λ e. omega arith) ∙ roots-at k i g l
  ]

-- nothing else has such entries
pub filled
    : (d out v : List Float) (k : ℕ) → length v ≡ length out
    → ((i : ℕ) → i < k → i < length v → get_or v i nan ≡ root (get_or d i nan))
    → ((i : ℕ) → k ≤ i → get_or v i nan ≡ get_or out i nan)
    → v ≡ roots_to d out k
filled d out v k e at rest = ext_get_or nan v (roots_to d out k) (e ∙ sym (roots-length d out k)) same
  where
    same : (i : ℕ) → i < length v → get_or v i nan ≡ get_or (roots_to d out k) i nan
    same i l = elim (either k i) [
      | inl g ↦ rest i g ∙ sym (roots-rest d out k i g)
      | inr g ↦ at i g l ∙ sym (roots-at d out k i g (rw e at l))
    ]

-- what stood below k plays no part
pub refilled
    : (d out v : List Float) (k : ℕ) → length v ≡ length out → ((i : ℕ) → k ≤ i → get_or v i nan ≡ get_or out i nan)
    → roots_to d v k ≡ roots_to d out k
refilled d out v k e rest =
    filled d out (roots_to d v k) k (roots-length d v k ∙ e)
    (λ i g l. roots-at d v k i g (rw roots-length at l))
    (λ i g. roots-rest d v k i g ∙ rest i g)
