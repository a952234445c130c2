-- There is a start, and there are never more than 18. Assumes nothing.
use Rattle.std.proofs.Common.{◌≡◌, ℕ, zero, suc, ◌+◌, ◌≤◌, Bool, true, false, cond, leb, List, [], ◌∷◌, ◌++◌, length, replicate, refl, ap, ◌∙◌, arith, length-append}
use lib.Ieee.{Float, lt, le}
use Rattle.binary64.specs.Steps.{◌⊖◌, ◌⊗◌, nought, one, two, decimal, abs}
use Rattle.geo.specs.Geo.{from_ecef, enu_basis}
use Rattle.dense.specs.Factor.{Factor, found, refused, cholesky}
use Rattle.dense.specs.Entries.{nth}
use Rattle.problem.specs.Problem.{four}
use Rattle.problem.specs.declared.Altitude.{Altitude}
use Rattle.starts.specs.declared.Points.{Points}
use Rattle.starts.specs.Held.{empty, packed}
use Rattle.starts.specs.Lifted.{centroid, lifted, ring_place, circle_to, ring}
use Rattle.starts.specs.Bancroft.{lorentz, products_to, rhs_to, lambdas, all_finite, place_at, places, crossed, pseudo, factored, bancroft}
use Rattle.starts.specs.Starts.{start_height, starts, starts_after}
use Rattle.starts.proofs.Places.{packed-count}

-- what holds on either side of a test
pub either : {A : Type 0} (P : A → Type 0) (t : Bool) (a b : A) → P a → P b → P (cond t a b)
either P true a b p q = p
either P false a b p q = q

abbrev Most : {A : Type 0} → ℕ → List A → Type 0
Most n l = length l ≤ n

kept-most : (p : List Float) → length (cond (all_finite p) (p ∷ []) []) ≤ 1
kept-most p = either (Most 1) (all_finite p) (p ∷ []) [] (omega arith) (omega arith)

lambdas-most : (a b c : Float) → length (lambdas a b c) ≤ 2
unfolding lambdas
lambdas-most a b c =
    either (Most 2) (lt (abs a) (decimal 1 30)) _ _
    (either (Most 2) (lt (decimal 1 30) (abs b)) _ _ (omega arith) (omega arith))
    (either (Most 2) (le nought (b ⊗ b ⊖ decimal 4 0 ⊗ a ⊗ c)) _ _ (omega arith) (omega arith))

module _ (u v centroid : List Float) where
  places-most : (ls : List Float) → length (places u v centroid ls) ≤ length ls
  unfolding places
  places-most [] = omega arith
  places-most (l ∷ ls) =
      let p : List Float = place_at u v centroid l in
      omega (arith, length-append (cond (all_finite p) (p ∷ []) []) (places u v centroid ls), kept-most p, places-most ls)

  crossed-most : length (crossed u v centroid) ≤ 2
  unfolding crossed
  crossed-most =
      let a : Float = lorentz u u in
      let b : Float = two ⊗ (lorentz u v ⊖ one) in
      let c : Float = lorentz v v in
      omega (arith, places-most (lambdas a b c), lambdas-most a b c)

factored-most : (f : Factor) (ones alpha centroid : List Float) → length (factored f ones alpha centroid) ≤ 2
factored-most (refused l) ones alpha centroid = omega arith
factored-most (found l) ones alpha centroid = crossed-most (pseudo l ones) (pseudo l alpha) centroid

-- Bancroft's roots are two at most
bancroft-most : (sites z : List Float) (k : ℕ) (centroid : List Float) → length (bancroft sites z k centroid) ≤ 2
unfolding bancroft
bancroft-most sites z k centroid = factored-most (cholesky (products_to sites z centroid k) 4 (replicate 16 nought)) (rhs_to sites z centroid false k)
    (rhs_to sites z centroid true k) centroid

-- the ring has sixteen
module _ (sites z : List Float) (k : ℕ) (height : Float) (centroid : List Float) (basis : List (List Float)) where
  circle-count : (radius : Float) (step : ℕ) → length (circle_to sites z k height centroid basis radius step) ≡ step
  unfolding circle_to
  circle-count radius zero = refl
  circle-count radius (suc step) =
      omega (
        arith,
        circle-count radius step,
        length-append (circle_to sites z k height centroid basis radius step)
            (lifted sites z k (from_ecef (ring_place centroid basis radius step)) height ∷ []),
      )

  ring-count : length (ring sites z k height centroid basis) ≡ 16
  unfolding ring
  ring-count =
      omega (
        arith,
        length-append (circle_to sites z k height centroid basis (decimal 100000 0) 8) (circle_to sites z k height centroid basis (decimal 300000 0) 8),
        circle-count (decimal 100000 0) 8,
        circle-count (decimal 300000 0) 8,
      )

abbrev Between : List (List Float) → Type 0
Between ps = (1 ≤ length ps) × (length ps ≤ 17)

module _ (sites z : List Float) (k : ℕ) (altitude : Altitude) where
  starts-between : Between (starts sites z k altitude)
  unfolding starts
  starts-between =
      let middle : List Float = centroid sites k in
      let height : Float = start_height altitude in
      let above : List Float = lifted sites z k (from_ecef middle) height in
      let roots : List (List Float) = bancroft sites z k middle in
      let basis : List (List Float) = enu_basis (from_ecef middle).lat_deg (from_ecef middle).lon_deg in
      let e : length (roots ++ (above ∷ [])) ≡ length roots + 1 = length-append roots (above ∷ []) in
      let most : length roots ≤ 2 = bancroft-most sites z k middle in
      let sixteen : length (ring sites z k height middle basis) ≡ 16 = ring-count sites z k height middle basis in
      either Between (leb 4 k) (roots ++ (above ∷ [])) (above ∷ ring sites z k height middle basis) (omega arith, omega arith)
      (omega arith, omega arith)

  module _ (had : Bool) (previous : List Float) where
    after-count : length (starts_after had previous sites z k altitude) ≡ length (cond had (four (nth previous) ∷ []) [])
        + length (starts sites z k altitude)
    unfolding starts_after
    after-count = length-append (cond had (four (nth previous) ∷ []) []) (starts sites z k altitude)

    before-most : length (cond had (four (nth previous) ∷ []) []) ≤ 1
    before-most = either (Most 1) had (four (nth previous) ∷ []) [] (omega arith) (omega arith)

    pub starts-least : 1 ≤ length (starts_after had previous sites z k altitude)
    starts-least = omega (arith, after-count, starts-between)

    pub starts-most : length (starts_after had previous sites z k altitude) ≤ 18
    starts-most = omega (arith, after-count, before-most, starts-between)

    -- what `starts` ensures, as its callers use it
    pub starts-count : (r : Points) → r ≡ packed empty (starts_after had previous sites z k altitude) → r.n
        ≡ length (starts_after had previous sites z k altitude)
    starts-count r e = ap (λ (q : Points). q.n) e ∙ packed-count (starts_after had previous sites z k altitude) starts-most
