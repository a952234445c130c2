-- What `clash-self` and `clash-sym` say of every pair, of the pairs of the first n receptions and of the clash counts. Assumes nothing.
use mathlib.Core.Path.{◌≡◌, refl, sym, subst}
use mathlib.Core.Bool.{Bool, true, false, not, ◌&&◌}
use mathlib.Core.List.{List}
use Prim.Native.Nat.{ℕ}
use borrow.Author.Tests.{eqb-true}
use lib.Dec.{eqb, ltb}
use lib.IntN.{ℤ}
use Rattle.sets.specs.Sets.{Subset, without}
use Rattle.sets.proofs.Tests.{eq→F}
use Rattle.sets.proofs.Counting.{count_same}
use Rattle.screen.specs.Pair.{clash, fails}
use Rattle.screen.specs.Screen.{clashes}
use Rattle.screen.specs.Others.{NoneFailsWithItself, FailingIsMutual, OthersAreCounted}
use Rattle.screen.proofs.Symmetry.{clash-sym, clash-self}

never : (a b c : Bool) → c ≡ false → a && (b && c) ≡ false
never true true c e = e
never true false c e = refl
never false b c e = refl

either_way : (a b c d : Bool) → c ≡ d → a && (b && c) ≡ b && (a && d)
either_way true true c d e = e
either_way true false c d e = refl
either_way false true c d e = refl
either_way false false c d e = refl

-- what fails is another
but-one : (a b f : Bool) → (b ≡ true → f ≡ false) → a && f ≡ (a && not b) && f
but-one true true f h = h refl
but-one true false f h = refl
but-one false b f h = refl

module _ (times sites : List ℤ) (n : ℕ) where
  not_itself : (i : ℕ) → fails times sites n i i ≡ false
  unfolding fails
  not_itself i = never (ltb i n) (ltb i n) (clash times sites i i) (clash-self times sites i)

  mutual-pair : (i j : ℕ) → fails times sites n i j ≡ fails times sites n j i
  unfolding fails
  mutual-pair i j = either_way (ltb i n) (ltb j n) (clash times sites i j) (clash times sites j i) (clash-sym times sites i j)

  others : (A : Subset) (i : ℕ) → clashes n (fails times sites n) A i ≡ clashes n (fails times sites n) (without A i) i
  unfolding clashes without
  others A i =
      count_same (λ j. A j && fails times sites n i j) (λ j. without A i j && fails times sites n i j) n (λ j l.
      but-one (A j) (eqb j i) (fails times sites n i j)
      (λ e. subst (λ (k : ℕ). fails times sites n i k ≡ false) (sym (eqb-true j i e)) (not_itself i)))

pub none-fails-with-itself : NoneFailsWithItself
none-fails-with-itself times sites n i = eq→F (not_itself times sites n i)

pub failing-is-mutual : FailingIsMutual
failing-is-mutual times sites n i j = mutual-pair times sites n i j

pub others-are-counted : OthersAreCounted
others-are-counted times sites n A i = others times sites n A i
