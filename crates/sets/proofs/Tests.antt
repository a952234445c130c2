-- Tests and the facts that they stand for. Assumes nothing.
use mathlib.Core.Path.{◌≡◌, refl, sym, subst}
use mathlib.Core.Logic.{◌⊎◌, inl, inr, ◌≢◌}
use mathlib.Core.Bool.{Bool, true, false, not, ◌&&◌, ◌||◌}
use Prim.Native.Nat.{ℕ, suc, ◌<◌}
use native.Mathlib.Nat.{le_antisymm, lt_of_not-le, eq-or-lt_of_le, le_of_suc-le-suc}
use lib.Dec.{T, not_T, eqb, eqb→eq, eqb_refl}

pub either : (b : Bool) → T b ⊎ T (not b)
either true = inl tt
either false = inr tt

pub T→eq : (b : Bool) → T b → b ≡ true
T→eq true t = refl
T→eq false t = elim t [ ]

pub F→eq : (b : Bool) → T (not b) → b ≡ false
F→eq false t = refl
F→eq true t = elim t [ ]

pub eq→T : {b : Bool} → b ≡ true → T b
eq→T e = subst T (sym e) tt

pub eq→F : {b : Bool} → b ≡ false → T (not b)
eq→F e = subst (λ (x : Bool). T (not x)) (sym e) tt

pub and_l : (a b : Bool) → T (a && b) → T a
and_l true b t = tt
and_l false b t = elim t [ ]

pub and_r : (a b : Bool) → T (a && b) → T b
and_r true b t = t
and_r false b t = elim t [ ]

pub and_both : (a b : Bool) → T a → T b → T (a && b)
and_both true b s t = t
and_both false b s t = elim s [ ]

pub or_l : (a b : Bool) → T a → T (a || b)
or_l true b t = tt
or_l false b t = elim t [ ]

pub or_r : (a b : Bool) → T b → T (a || b)
or_r true b t = tt
or_r false b t = t

pub or_cases : (a b : Bool) → T (a || b) → T a ⊎ T b
or_cases true b t = inl tt
or_cases false b t = inr t

-- two tests that pass together are equal
pub same-T : (a b : Bool) → (T a → T b) → (T b → T a) → a ≡ b
same-T true true f g = refl
same-T true false f g = absurd (f tt)
same-T false true f g = absurd (g tt)
same-T false false f g = refl

pub eq→eqb : (i j : ℕ) → i ≡ j → T (eqb i j)
eq→eqb i j e = subst (λ (x : ℕ). T (eqb i x)) e (eqb_refl i)

pub ne→neqb : (i j : ℕ) → i ≢ j → T (not (eqb i j))
ne→neqb i j h = not_T (eqb i j) (λ t. h (eqb→eq i j t))

-- an index below suc k is k, or below it
pub lt-suc-cases : (j k : ℕ) → j < suc k → (j ≡ k) ⊎ (j < k)
lt-suc-cases j k h = eq-or-lt_of_le (le_of_suc-le-suc h)

-- two indices of which neither is below the other are one
pub neither-below : (i j : ℕ) → (i < j → ⊥) → (j < i → ⊥) → i ≡ j
neither-below i j f g = le_antisymm (le_of_suc-le-suc (lt_of_not-le g)) (le_of_suc-le-suc (lt_of_not-le f))
