-- A start is read back from the array as it stands in the list: each is a list of four. Assumes nothing.
use Rattle.std.proofs.Common.{◌≡◌, ℕ, zero, suc, ◌<◌, Bool, true, false, cond, leb, List, [], ◌∷◌, ◌++◌, length, get_or, replicate, refl, ap, ◌∙◌, arith}
use lib.Ieee.{Float}
use Rattle.binary64.specs.Steps.{◌⊖◌, ◌⊗◌, nought, one, two, decimal}
use Rattle.geo.specs.Geo.{from_ecef, enu_basis}
use Rattle.geo.specs.declared.Geodetic.{Geodetic}
use Rattle.dense.specs.Entries.{nth}
use Rattle.dense.specs.Factor.{Factor, found, refused, cholesky}
use Rattle.problem.specs.Problem.{four}
use Rattle.problem.specs.declared.Altitude.{Altitude}
use Rattle.starts.specs.declared.Points.{Points}
use Rattle.starts.specs.Held.{empty, packed, point}
use Rattle.starts.specs.Lifted.{centroid, timed, lifted, ring_place, circle_to, ring}
use Rattle.starts.specs.Bancroft.{lorentz, products_to, rhs_to, lambdas, all_finite, place_at, places, crossed, pseudo, factored, bancroft}
use Rattle.starts.specs.Starts.{start_height, starts, starts_after}
use Rattle.starts.proofs.Places.{packed-at}
use Rattle.starts.proofs.Count.{either, starts-most}

abbrev Four : List Float → Type 0
Four p = four (nth p) ≡ p

abbrev Fours : List (List Float) → Type 0
Fours ps = (i : ℕ) → i < length ps → Four (get_or ps i [])

no-four : Fours []
no-four i h = absurd (omega arith)

one_more : (p : List Float) (ps : List (List Float)) → Four p → Fours ps → Fours (p ∷ ps)
one_more p ps f g zero h = f
one_more p ps f g (suc i) h = g i (omega arith)

appended : (a b : List (List Float)) → Fours a → Fours b → Fours (a ++ b)
appended [] b f g = g
appended (p ∷ a) b f g = one_more p (a ++ b) (f 0 (omega arith)) (appended a b (λ i h. f (suc i) (omega arith)) g)

lifted-four : (sites z : List Float) (k : ℕ) (ground : Geodetic) (height : Float) → Four (lifted sites z k ground height)
unfolding lifted timed
lifted-four sites z k ground height = refl

module _ (u v centroid : List Float) where
  place-four : (l : Float) → Four (place_at u v centroid l)
  place-four l = refl

  places-four : (ls : List Float) → Fours (places u v centroid ls)
  unfolding places
  places-four [] = no-four
  places-four (l ∷ ls) =
      let p : List Float = place_at u v centroid l in
      appended (cond (all_finite p) (p ∷ []) []) (places u v centroid ls)
      (either Fours (all_finite p) (p ∷ []) [] (one_more p [] (place-four l) no-four) no-four) (places-four ls)

  crossed-four : Fours (crossed u v centroid)
  unfolding crossed
  crossed-four = places-four (lambdas (lorentz u u) (two ⊗ (lorentz u v ⊖ one)) (lorentz v v))

factored-four : (f : Factor) (ones alpha centroid : List Float) → Fours (factored f ones alpha centroid)
factored-four (refused l) ones alpha centroid = no-four
factored-four (found l) ones alpha centroid = crossed-four (pseudo l ones) (pseudo l alpha) centroid

module _ (sites z : List Float) (k : ℕ) where
  bancroft-four : (centroid : List Float) → Fours (bancroft sites z k centroid)
  unfolding bancroft
  bancroft-four centroid = factored-four (cholesky (products_to sites z centroid k) 4 (replicate 16 nought)) (rhs_to sites z centroid false k)
      (rhs_to sites z centroid true k) centroid

  module _ (height : Float) (centroid : List Float) (basis : List (List Float)) where
    circle-four : (radius : Float) (step : ℕ) → Fours (circle_to sites z k height centroid basis radius step)
    unfolding circle_to
    circle-four radius zero = no-four
    circle-four radius (suc step) =
        let place : Geodetic = from_ecef (ring_place centroid basis radius step) in
        appended (circle_to sites z k height centroid basis radius step) (lifted sites z k place height ∷ []) (circle-four radius step)
        (one_more (lifted sites z k place height) [] (lifted-four sites z k place height) no-four)

    ring-four : Fours (ring sites z k height centroid basis)
    unfolding ring
    ring-four =
        appended (circle_to sites z k height centroid basis (decimal 100000 0) 8) (circle_to sites z k height centroid basis (decimal 300000 0) 8)
        (circle-four (decimal 100000 0) 8) (circle-four (decimal 300000 0) 8)

  module _ (altitude : Altitude) where
    starts-four : Fours (starts sites z k altitude)
    unfolding starts
    starts-four =
        let middle : List Float = centroid sites k in
        let ground : Geodetic = from_ecef middle in
        let height : Float = start_height altitude in
        let above : List Float = lifted sites z k ground height in
        let roots : List (List Float) = bancroft sites z k middle in
        let about : List (List Float) = ring sites z k height middle (enu_basis ground.lat_deg ground.lon_deg) in
        let lone : Four above = lifted-four sites z k ground height in
        either Fours (leb 4 k) (roots ++ (above ∷ [])) (above ∷ about)
        (appended roots (above ∷ []) (bancroft-four middle) (one_more above [] lone no-four))
        (one_more above about lone (ring-four height middle (enu_basis ground.lat_deg ground.lon_deg)))

    module _ (had : Bool) (previous : List Float) where
      after-four : Fours (starts_after had previous sites z k altitude)
      unfolding starts_after
      after-four =
          appended (cond had (four (nth previous) ∷ []) []) (starts sites z k altitude)
          (either Fours had (four (nth previous) ∷ []) [] (one_more (four (nth previous)) [] refl no-four) no-four) starts-four

      -- what `starts` ensures, as its callers use it: the i-th start
      pub starts-at : (r : Points) → r ≡ packed empty (starts_after had previous sites z k altitude) → (i : ℕ)
          → i < length (starts_after had previous sites z k altitude)
          → point r.at i ≡ get_or (starts_after had previous sites z k altitude) i []
      starts-at r e i h =
          ap (λ (q : Points). point q.at i) e ∙ packed-at (starts_after had previous sites z k altitude)
          (starts-most sites z k altitude had previous) i h ∙ after-four i h
