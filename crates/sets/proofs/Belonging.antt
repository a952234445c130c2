-- The members of sets. Assumes nothing.
use mathlib.Core.Path.{◌≡◌, fun_ext}
use mathlib.Core.Logic.{◌⊎◌, inl, inr, ◌≢◌, ◌↔◌}
use mathlib.Core.Bool.{not}
use Prim.Native.Nat.{ℕ}
use lib.Dec.{T, T_not, eqb, eqb→eq}
use Rattle.sets.specs.Sets.{Subset, joined, without}
use Rattle.sets.proofs.Tests.{and_l, and_r, and_both, or_l, or_r, or_cases, same-T, eq→eqb, ne→neqb}

-- two sets with the same members are equal
pub subset-ext : (S R : Subset) → ((j : ℕ) → T (S j) ↔ T (R j)) → S ≡ R
subset-ext S R h = fun_ext (λ (j : ℕ). same-T (S j) (R j) (h j).0 (h j).1)

pub in-joined : (S : Subset) (i j : ℕ) → T (joined S i j) ↔ (T (S j) ⊎ (j ≡ i))
unfolding joined
in-joined S i j = (
  (λ t. elim (or_cases (S j) (eqb j i) t) [ inl a ↦ inl a | inr a ↦ inr (eqb→eq j i a) ]),
  (λ t. elim t [ inl a ↦ or_l (S j) (eqb j i) a | inr e ↦ or_r (S j) (eqb j i) (eq→eqb j i e) ]),
)

pub in_without : (S : Subset) (i j : ℕ) → T (without S i j) ↔ (T (S j) × (j ≢ i))
unfolding without
in_without S i j = (
  (λ t. (and_l (S j) (not (eqb j i)) t, λ e. T_not (eqb j i) (and_r (S j) (not (eqb j i)) t) (eq→eqb j i e))),
  (λ h. and_both (S j) (not (eqb j i)) h.0 (ne→neqb j i h.1)),
)
