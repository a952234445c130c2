-- A covariance of three rows that passes the two tests of `finish` has finite entries on and left of the diagonal, and variances above 0: an entry
-- that is not finite would leave no pivot above 0. Assumes nothing.
use Rattle.std.proofs.Common.{◌≡◌, ℕ, Bool, true, false, cond, T, List, [], ◌∷◌, replicate, refl, arith}
use lib.Ieee.{Float, binary64, round, mul, lt}
use lib.Ieee.Fits.{sub-fits}
use lib.Ieee.Scale.{finite}
use Rattle.binary64.specs.Steps.{◌⊖◌, ◌⊗◌, ◌⊘◌, nought}
use Rattle.binary64.specs.Root.{root}
use Rattle.binary64.specs.Meaning.{IsBinary64}
use Rattle.binary64.proofs.Order.{holds}
use Rattle.dense.specs.Entries.{minus_dots}
use Rattle.dense.specs.Factor.{found, refused, column_to, column, cholesky_to, cholesky}
use Rattle.limits.specs.Local.{entry}
use Rattle.rounds.specs.Finish.{max_variance_m2}
use Rattle.rounds.specs.Later.{Certain}
use Rattle.binary64.proofs.Finite.{sub-finite, div-finite, limited, pivot-root, pivot-value}

-- ---- the pivots of a 3 x 3 Cholesky
module _ (a b c d e f g h i : Float) where
  abbrev matrix : List Float
  matrix = a ∷ b ∷ c ∷ d ∷ e ∷ f ∷ g ∷ h ∷ i ∷ []

  abbrev l10 : Float
  l10 = d ⊘ root a

  abbrev l20 : Float
  l20 = g ⊘ root a

  abbrev second : Float
  second = e ⊖ l10 ⊗ l10

  abbrev l21 : Float
  l21 = (h ⊖ l20 ⊗ l10) ⊘ root second

  abbrev third : Float
  third = i ⊖ l20 ⊗ l20 ⊖ l21 ⊗ l21

  -- the factor's array after no column, one and two
  abbrev first-array : List Float
  first-array = root a ∷ nought ∷ nought ∷ l10 ∷ nought ∷ nought ∷ l20 ∷ nought ∷ nought ∷ []

  abbrev second-array : List Float
  second-array = root a ∷ nought ∷ nought ∷ l10 ∷ root second ∷ nought ∷ l20 ∷ l21 ∷ nought ∷ []

  abbrev third-array : List Float
  third-array = root a ∷ nought ∷ nought ∷ l10 ∷ root second ∷ nought ∷ l20 ∷ l21 ∷ root third ∷ []

  pivots : (l : List Float) → cholesky matrix 3 (replicate 9 nought) ≡ found l → T (lt nought a) × T (lt nought second) × T (lt nought third)
  unfolding cholesky_to column column_to minus_dots
  pivots l q = one (lt nought a) refl q
    where
      three : (x : Bool) → lt nought third ≡ x → cond x (found third-array) (refused second-array) ≡ found l → T (lt nought third)
      three true p r = holds (lt nought third) p
      three false p r = absurd (let z : ◌≡◌ {A = ℕ} 0 1 = cc in omega arith)

      two
          : (x : Bool) → lt nought second ≡ x → column matrix 3 2 (cond x (found second-array) (refused first-array)) ≡ found l
          → T (lt nought second) × T (lt nought third)
      two true p r = (holds (lt nought second) p, three (lt nought third) refl r)
      two false p r = absurd (let z : ◌≡◌ {A = ℕ} 0 1 = cc in omega arith)

      one
          : (x : Bool) → lt nought a ≡ x → column matrix 3 2 (column matrix 3 1 (cond x (found first-array) (refused (replicate 9 nought)))) ≡ found l
          → T (lt nought a) × T (lt nought second) × T (lt nought third)
      one true p r = let t = two (lt nought second) refl r in (holds (lt nought a) p, t.0, t.1)
      one false p r = absurd (let z : ◌≡◌ {A = ℕ} 0 1 = cc in omega arith)

-- ---- the entries
pub variance-finite : T (finite max_variance_m2)
unfolding max_variance_m2 round mul
variance-finite = tt

module _ (c : List (List Float)) (certain : Certain c) (fits1 : IsBinary64 (entry c 1 1)) (fits2 : IsBinary64 (entry c 2 2)) where
  abbrev at : ℕ → ℕ → Float
  at = entry c

  abbrev tests
      : T (lt nought (at 0 0)) × T (lt nought (second (at 0 0) (at 0 1) (at 0 2) (at 1 0) (at 1 1) (at 1 2) (at 2 0) (at 2 1) (at 2 2)))
      × T (lt nought (third (at 0 0) (at 0 1) (at 0 2) (at 1 0) (at 1 1) (at 1 2) (at 2 0) (at 2 1) (at 2 2)))
  tests = pivots (at 0 0) (at 0 1) (at 0 2) (at 1 0) (at 1 1) (at 1 2) (at 2 0) (at 2 1) (at 2 2) certain.factor certain.definite

  abbrev low10 : Float
  low10 = at 1 0 ⊘ root (at 0 0)

  abbrev low20 : Float
  low20 = at 2 0 ⊘ root (at 0 0)

  abbrev low21 : Float
  low21 = (at 2 1 ⊖ low20 ⊗ low10) ⊘ root (at 1 1 ⊖ low10 ⊗ low10)

  -- what the third pivot leaves of the variance before its second square
  rest : T (lt nought (at 2 2 ⊖ low20 ⊗ low20))
  rest = pivot-value (at 2 2 ⊖ low20 ⊗ low20) low21 (sub-fits binary64 (at 2 2) (low20 ⊗ low20)) tests.2

  pub above : (T (lt nought (at 0 0))) × (T (lt nought (at 1 1))) × (T (lt nought (at 2 2)))
  above = (tests.0, pivot-value (at 1 1) low10 fits1 tests.1, pivot-value (at 2 2) low20 fits2 rest)

  pub diagonal : (T (finite (at 0 0))) × (T (finite (at 1 1))) × (T (finite (at 2 2)))
  diagonal =
      let narrow = certain.narrow in (
        limited (at 0 0) max_variance_m2 variance-finite above.0 (narrow 0 (omega arith)),
        limited (at 1 1) max_variance_m2 variance-finite above.1 (narrow 1 (omega arith)),
        limited (at 2 2) max_variance_m2 variance-finite above.2 (narrow 2 (omega arith)),
      )

  pub lower : (T (finite (at 1 0))) × (T (finite (at 2 0))) × (T (finite (at 2 1)))
  lower = (
    div-finite binary64 (at 1 0) (root (at 0 0)) (pivot-root (at 1 1) low10 tests.1),
    div-finite binary64 (at 2 0) (root (at 0 0)) (pivot-root (at 2 2) low20 rest),
    (sub-finite binary64 (at 2 1) (low20 ⊗ low10)
        (div-finite binary64 (at 2 1 ⊖ low20 ⊗ low10) (root (at 1 1 ⊖ low10 ⊗ low10)) (pivot-root (at 2 2 ⊖ low20 ⊗ low20) low21 tests.2))).0,
  )
