-- `all` and `any` of a test over the indices below n, and over a list. Assumes nothing.
use mathlib.Core.Path.{◌≡◌, refl, sym, ap, ◌∙◌}
use mathlib.Core.Bool.{Bool, true, false, ◌&&◌, ◌||◌}
use mathlib.Core.List.{List, [], ◌∷◌}
use Prim.Native.Nat.{ℕ, zero, suc, ◌+◌}
use native.Mathlib.Numerals.{add-one}
use native.Mathlib.Omega.{arith}
use lib.Dec.{ltb}
use lib.ListN.{length, get_or}
use Rattle.std.specs.List.{list_any, list_all, range_with_len}
use Rattle.sets.specs.Sets.{count}
use Rattle.best.proofs.Passes.{or-false, any-turn}

and-true : (a : Bool) → (a && true) ≡ a
and-true true = refl
and-true false = refl

and-assoc : (a b c : Bool) → (a && (b && c)) ≡ ((a && b) && c)
and-assoc true b c = refl
and-assoc false b c = refl

or-assoc : (a b c : Bool) → (a || (b || c)) ≡ ((a || b) || c)
or-assoc true b c = refl
or-assoc false b c = refl

-- one index more
module _ (p : ℕ → Bool) where
  all-more : (a n : ℕ) → list_all p (range_with_len a (suc n)) ≡ (list_all p (range_with_len a n) && p (a + n))
  all-more a zero = let e : a ≡ a + 0 = omega arith in and-true (p a) ∙ ap p e
  all-more a (suc n) =
      let e : a + 1 + n ≡ a + suc n = omega arith in
      ap (λ (x : Bool). p a && x) (all-more (a + 1) n ∙ ap (λ (j : ℕ). list_all p (range_with_len (a + 1) n) && p j) e)
      ∙ and-assoc (p a) (list_all p (range_with_len (a + 1) n)) (p (a + suc n))

  pub all-next : (n : ℕ) → list_all p (range_with_len 0 (suc n)) ≡ (list_all p (range_with_len 0 n) && p n)
  all-next n = let e : 0 + n ≡ n = omega arith in
      all-more 0 n ∙ ap (λ (j : ℕ). list_all p (range_with_len 0 n) && p j) e

  any-more : (a n : ℕ) → list_any p (range_with_len a (suc n)) ≡ (list_any p (range_with_len a n) || p (a + n))
  any-more a zero = let e : a ≡ a + 0 = omega arith in or-false (p a) ∙ ap p e
  any-more a (suc n) =
      let e : a + 1 + n ≡ a + suc n = omega arith in
      ap (λ (x : Bool). p a || x) (any-more (a + 1) n ∙ ap (λ (j : ℕ). list_any p (range_with_len (a + 1) n) || p j) e)
      ∙ or-assoc (p a) (list_any p (range_with_len (a + 1) n)) (p (a + suc n))

  -- one of the indices below n passes
  pub any-is : (n : ℕ) → list_any p (range_with_len 0 n) ≡ ltb 0 (count p n)
  unfolding count
  any-is zero = refl
  any-is (suc n) =
      let e : 0 + n ≡ n = omega arith in
      any-more 0 n ∙ ap (λ (j : ℕ). list_any p (range_with_len 0 n) || p j) e ∙ ap (λ (b : Bool). b || p n) (any-is n)
      ∙ any-turn p n ∙ ap (λ (m : ℕ). ltb 0 (count p m)) (add-one n)

-- the items of a list, by their indices
shifted : (p : ℕ → Bool) (a n : ℕ) → list_any (λ (i : ℕ). p (suc i)) (range_with_len a n) ≡ list_any p (range_with_len (a + 1) n)
shifted p a zero = refl
shifted p a (suc n) = ap (λ (b : Bool). p (suc a) || b) (shifted p (a + 1) n) ∙ ap (λ (j : ℕ). p j || list_any p (range_with_len (a + 1 + 1) n))
    (sym (add-one a))

by-index : {A : Type 0} (p : A → Bool) (xs : List A) (d : A) → list_any p xs ≡ list_any (λ (i : ℕ). p (get_or xs i d)) (range_with_len 0 (length xs))
by-index p [] d = refl
by-index p (x ∷ xs) d = ap (λ (b : Bool). p x || b) (by-index p xs d ∙ shifted (λ (i : ℕ). p (get_or (x ∷ xs) i d)) 0 (length xs))

pub any-listed : {A : Type 0} (p : A → Bool) (xs : List A) (d : A) → list_any p xs ≡ ltb 0 (count (λ (i : ℕ). p (get_or xs i d)) (length xs))
any-listed p xs d = by-index p xs d ∙ any-is (λ (i : ℕ). p (get_or xs i d)) (length xs)
