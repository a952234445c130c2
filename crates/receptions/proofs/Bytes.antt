-- Bytes compared place by place: where two lists first differ, and where they never do; and 32 bytes of a file. Assumes nothing.
use Prim.Native.Nat.{ℕ, zero, suc, ◌<◌}
use mathlib.Core.Path.{◌≡◌, refl, sym, subst, ◌∙◌}
use mathlib.Core.Logic.{◌⊎◌, inl, inr}
use mathlib.Core.List.{List, [], ◌∷◌}
use native.Mathlib.Omega.{arith}
use lib.ListN.{get_or, length}
use Rattle.std.specs.declared.cmp.Ordering.{Ordering}
use Rattle.std.specs.declared.cmp.Ordering.TheVariants.{Less, Equal, Greater}
use Rattle.receptions.specs.Identities.{in_turn, compare_numbers, compare_bytes}
use Rattle.receptions.specs.Meaning.{BytesLess}
use Rattle.receptions.proofs.Ordered.{turn-less, numbers-lt, lt-numbers, numbers-ordered}

abbrev pub Agree : List ℕ → List ℕ → ℕ → Type 0
Agree xs ys k = (j : ℕ) → j < k → get_or xs j 0 ≡ get_or ys j 0

equal-in-turn : (x y : ℕ) (p : Ordering) → x ≡ y → in_turn (compare_numbers x y) p ≡ p
equal-in-turn x y p e = rw (subst (λ (z : ℕ). compare_numbers x z ≡ Equal) e (numbers-ordered.self x))

-- the first place where they differ decides
pub bytes-differ
    : (xs ys : List ℕ) (k : ℕ) → k < length xs → k < length ys → Agree xs ys k → (get_or xs k 0 ≡ get_or ys k 0 → ⊥)
    → compare_numbers (get_or xs k 0) (get_or ys k 0) ≡ compare_bytes xs ys
unfolding compare_bytes
bytes-differ [] ys k l m a ne = absurd (omega (arith, l))
bytes-differ (x ∷ xs) [] k l m a ne = absurd (omega (arith, m))
bytes-differ (x ∷ xs) (y ∷ ys) zero l m a ne = go (compare_numbers x y) refl
  where
    go : (p : Ordering) → compare_numbers x y ≡ p → p ≡ in_turn p (compare_bytes xs ys)
    go Less e = refl
    go Equal e = absurd (ne (numbers-ordered.same x y e))
    go Greater e = refl
bytes-differ (x ∷ xs) (y ∷ ys) (suc k) l m a ne =
    bytes-differ xs ys k (omega (arith, l)) (omega (arith, m)) (λ j h. a (suc j) (omega (arith, h))) ne
    ∙ sym (equal-in-turn x y (compare_bytes xs ys) (a 0 (omega arith)))

-- the first place where they differ, of as many
abbrev Decides : List ℕ → List ℕ → ℕ → Type 0
Decides xs ys k = (k < length xs) × Agree xs ys k × (get_or xs k 0 < get_or ys k 0)

first-less : (xs ys : List ℕ) → length xs ≡ length ys → compare_bytes xs ys ≡ Less → (k : ℕ) × Decides xs ys k
unfolding compare_bytes
first-less [] [] l e = absurd (let z : ◌≡◌ {A = ℕ} 0 1 = cc in omega arith)
first-less [] (y ∷ ys) l e = absurd (omega (arith, l))
first-less (x ∷ xs) [] l e = absurd (omega (arith, l))
first-less (x ∷ xs) (y ∷ ys) l e = go (turn-less (compare_numbers x y) (compare_bytes xs ys) e) (first-less xs ys (omega (arith, l)))
  where
    go : (compare_numbers x y ≡ Less) ⊎ ((compare_numbers x y ≡ Equal) × (compare_bytes xs ys ≡ Less))
        → (compare_bytes xs ys ≡ Less → (k : ℕ) × Decides xs ys k)
        → (k : ℕ) × Decides (x ∷ xs) (y ∷ ys) k
    go (inl g) f = (0, (omega arith, λ j h. absurd (omega (arith, h)), numbers-lt x y g))
    go (inr g) f = let r = f g.1 in (suc r.0, (omega (arith, r.1.0), shifted (numbers-ordered.same x y g.0) r.0 r.1.1, r.1.2))
      where
        shifted : x ≡ y → (k : ℕ) → Agree xs ys k → Agree (x ∷ xs) (y ∷ ys) (suc k)
        shifted q k a zero h = q
        shifted q k a (suc j) h = a j (omega (arith, h))

-- of 32 bytes each, in words
module _ (xs ys : List ℕ) (l : length xs ≡ 32) (m : length ys ≡ 32) where
  pub less-said : compare_bytes xs ys ≡ Less → BytesLess xs ys
  less-said e = let r = first-less xs ys (l ∙ sym m) e in (r.0, (omega (arith, r.1.0, l), r.1.1, r.1.2))

  pub less-meant : BytesLess xs ys → compare_bytes xs ys ≡ Less
  less-meant r =
      sym (bytes-differ xs ys r.0 (omega (arith, r.1.0, l)) (omega (arith, r.1.0, m)) r.1.1 (λ e. omega (arith, e, r.1.2)))
      ∙ lt-numbers (get_or xs r.0 0) (get_or ys r.0 0) r.1.2
