-- `bancroft` of solve.rs: the closed form for z_i = T + |X - s_i|, in coordinates centred on the sites' centroid.
-- Definitions only.
use Rattle.std.specs.Prelude.{ℕ, zero, suc, Bool, true, false, cond, ◌&&◌, List, [], ◌∷◌, ◌++◌, replicate, Float}
use Rattle.std.specs.Float.Ieee.{neg, lt, le}
use Rattle.binary64.specs.Steps.{◌⊕◌, ◌⊖◌, ◌⊗◌, ◌⊘◌, nought, one, half, two, decimal, abs, is_finite}
use Rattle.binary64.specs.Root.{root}
use Rattle.dense.specs.Entries.{nth}
use Rattle.dense.specs.Factor.{Factor, found, refused, cholesky}
use Rattle.dense.specs.Solve.{solve}
use Rattle.linalg.specs.Vec3.{sub}
use Rattle.problem.specs.Problem.{site_at}
use Rattle.whitening.specs.Normal.{plus_products, plus_multiple}

-- `lorentz`
abbrev pub lorentz : List Float → List Float → Float
lorentz a b = nth a 0 ⊗ nth b 0 ⊕ nth a 1 ⊗ nth b 1 ⊕ nth a 2 ⊗ nth b 2 ⊖ nth a 3 ⊗ nth b 3

module _ (sites z centroid : List Float) where
  -- `rows`: reception i's site less the centroid, and its time
  unfoldable pub row_at : ℕ → List Float
  row_at i = sub (site_at sites i) centroid ++ (nth z i ∷ [])

  -- `btb`, of the first i rows: `btb.add(i, j, row[i] * row[j])`
  unfoldable pub products_to : ℕ → List Float
  products_to zero = replicate 16 nought
  products_to (suc i) = plus_products (products_to i) (row_at i)

  -- `bt`, of the first i rows: `bt[i] += row[i] * value`, for the values `alpha`, or `ones`
  unfoldable pub rhs_to : Bool → ℕ → List Float
  rhs_to alpha zero = replicate 4 nought
  rhs_to alpha (suc i) = let row = row_at i in plus_multiple (rhs_to alpha i) row (cond alpha (half ⊗ lorentz row row) one)

-- `pseudo`, with the factor l
unfoldable pub pseudo : List Float → List Float → List Float
pseudo l bt = let x = solve l 4 bt in nth x 0 ∷ nth x 1 ∷ nth x 2 ∷ neg (nth x 3) ∷ []

-- `lambdas`: the real roots of a λ² + b λ + c
unfoldable pub lambdas : Float → Float → Float → List Float
lambdas a b c =
    let discriminant = b ⊗ b ⊖ decimal 4 0 ⊗ a ⊗ c in let r = root discriminant in
    cond (lt (abs a) (decimal 1 30)) (cond (lt (decimal 1 30) (abs b)) ((neg c ⊘ b) ∷ []) [])
    (cond (le nought discriminant) (((neg b ⊖ r) ⊘ (two ⊗ a)) ∷ ((neg b ⊕ r) ⊘ (two ⊗ a)) ∷ []) [])

-- `params.iter().all(|value| value.is_finite())`
unfoldable pub all_finite : List Float → Bool
all_finite params = is_finite (nth params 0)
    && (is_finite (nth params 1) && (is_finite (nth params 2) && is_finite (nth params 3)))

module _ (u v centroid : List Float) where
  -- the parameters of a root
  abbrev pub place_at : Float → List Float
  place_at lambda =
      let at : ℕ → Float = λ i. lambda ⊗ nth u i ⊕ nth v i in
      (at 0 ⊕ nth centroid 0) ∷ (at 1 ⊕ nth centroid 1) ∷ (at 2 ⊕ nth centroid 2) ∷ at 3 ∷ []

  -- those of each root; the `filter` leaves out what is not all finite
  unfoldable pub places : List Float → List (List Float)
  places [] = []
  places (lambda ∷ rest) = let params = place_at lambda in cond (all_finite params) (params ∷ []) [] ++ places rest

  -- from u and v
  unfoldable pub crossed : List (List Float)
  crossed = places (lambdas (lorentz u u) (two ⊗ (lorentz u v ⊖ one)) (lorentz v v))

-- `let Some(factor) = btb.cholesky() else { return Vec::new() }`, and the rest
abbrev pub factored : Factor → List Float → List Float → List Float → List (List Float)
factored (refused l) ones alpha centroid = []
factored (found l) ones alpha centroid = crossed (pseudo l ones) (pseudo l alpha) centroid

-- `bancroft` of k receptions. Its n is k, and so is that of `starts` where `bancroft` is called, with four or more: the
-- centroid is the same.
unfoldable pub bancroft : List Float → List Float → ℕ → List Float → List (List Float)
bancroft sites z k centroid = factored (cholesky (products_to sites z centroid k) 4 (replicate 16 nought))
    (rhs_to sites z centroid false k) (rhs_to sites z centroid true k) centroid
