-- What libm and geo say of sine, cosine and basis, of the numbers that the functions here hand back. Assumes nothing.
use mathlib.Core.Path.{◌≡◌, sym, subst}
use mathlib.Core.List.{List, [], ◌∷◌}
use Prim.Native.Nat.{ℕ, zero, suc}
use native.Mathlib.Nat.{le_of_suc-le-suc}
use native.Mathlib.Omega.{arith}
use mathlib.Core.Bool.{true}
use lib.Dec.{T, ltb, ltb→lt}
use lib.Ieee.{Float, binary64, fits}
use Rattle.binary64.specs.Steps.{one}
use Rattle.binary64.specs.Within.{Within}
use Rattle.libm.specs.Trig.{sin, cos}
use Rattle.libm.proofs.Meaning.{sine-within-one, cosine-within-one, sine-beyond, cosine-beyond}
use Rattle.geo.specs.Geo.{enu_basis}
use Rattle.geo.specs.Meaning.{EntriesWithinOne}
use Rattle.geo.proofs.Meaning.{basis-within-one, basis-of-turns}
use Rattle.limits.specs.Local.{entry}
use Rattle.mlat_solver.specs.Display.{IsBounded, AreBounded, EachWithinOne, IsBoundedBasis}
use Rattle.mlat_solver.specs.Lent.{nine_of}
use Rattle.mlat_solver.proofs.Meaning.{held}

module _ (x : Float) (f : fits binary64 x ≡ true) where
  bounded-sine : IsBounded x (sin x)
  bounded-sine = (sine-within-one x (held x f), sine-beyond x (held x f))

  bounded-cosine : IsBounded x (cos x)
  bounded-cosine = (cosine-within-one x (held x f), cosine-beyond x (held x f))

  pub sine : (r : Float) → r ≡ sin x → IsBounded x r
  sine r e = subst (IsBounded x) (sym e) bounded-sine

  pub cosine : (r : Float) → r ≡ cos x → IsBounded x r
  cosine r e = subst (IsBounded x) (sym e) bounded-cosine

  both : AreBounded x (sin x ∷ cos x ∷ [])
  both zero h = bounded-sine
  both (suc zero) h = bounded-cosine
  both (suc (suc k)) h = absurd (omega arith)

  pub pair : (v : List Float) → v ≡ sin x ∷ cos x ∷ [] → AreBounded x v
  pair v e = subst (AreBounded x) (sym e) both

-- ---- nine entries, one after the other
none : EachWithinOne []
none k h = absurd (omega arith)

and_then : (x : Float) (xs : List Float) → Within one x → EachWithinOne xs → EachWithinOne (x ∷ xs)
and_then x xs w v zero h = w
and_then x xs w v (suc k) h = v k (le_of_suc-le-suc h)

module _ (b : List (List Float)) (entries : EntriesWithinOne b) where
  row : (i : ℕ) → T (ltb i 3) → (xs : List Float) → EachWithinOne xs → EachWithinOne (entry b i 0 ∷ entry b i 1 ∷ entry b i 2 ∷ xs)
  row i p xs h =
      let at : (j : ℕ) → T (ltb j 3) → Within one (entry b i j) = λ j q. entries i j (ltb→lt i 3 p) (ltb→lt j 3 q) in
      and_then (entry b i 0) (entry b i 1 ∷ entry b i 2 ∷ xs) (at 0 tt)
      (and_then (entry b i 1) (entry b i 2 ∷ xs) (at 1 tt) (and_then (entry b i 2) xs (at 2 tt) h))

  nine-in : EachWithinOne (nine_of b)
  nine-in =
      row 0 tt (entry b 1 0 ∷ entry b 1 1 ∷ entry b 1 2 ∷ entry b 2 0 ∷ entry b 2 1 ∷ entry b 2 2 ∷ [])
      (row 1 tt (entry b 2 0 ∷ entry b 2 1 ∷ entry b 2 2 ∷ []) (row 2 tt [] none))

pub basis : (a b : Float) → fits binary64 a ≡ true → fits binary64 b ≡ true → (v : List Float) → v ≡ nine_of (enu_basis a b) → IsBoundedBasis a b v
basis a b f g v e =
    subst (IsBoundedBasis a b) (sym e) (
      λ s t. nine-in (enu_basis a b) (basis-within-one a b (held a f) (held b g) s t),
      λ s t. nine-in (enu_basis a b) (basis-of-turns a b s t),
    )
