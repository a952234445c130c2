-- Every start of a fit has values of binary64 for its components: each is the result of a step, or comes from the round before. Assumes nothing.
use Rattle.std.proofs.Common.{ℕ, zero, suc, Bool, true, false, cond, leb, List, [], ◌∷◌, ◌++◌, get_or, replicate, arith}
use lib.Ieee.{Float, binary64}
use lib.Ieee.Fits.{add-fits, mul-fits, div-fits, nan-fits}
use Rattle.binary64.specs.Steps.{◌⊖◌, ◌⊗◌, nought, one, two, decimal}
use Rattle.geo.specs.Geo.{to_ecef, from_ecef, enu_basis}
use Rattle.geo.specs.declared.Geodetic.{Geodetic}
use Rattle.dense.specs.Entries.{nth}
use Rattle.dense.specs.Factor.{Factor, found, refused, cholesky}
use Rattle.problem.specs.Problem.{four}
use Rattle.problem.specs.declared.Altitude.{Altitude}
use Rattle.whitening.proofs.Formatted.{Formatted, formatted}
use Rattle.starts.specs.Lifted.{timed, lifted, ring_place, circle_to, ring, centroid}
use Rattle.starts.specs.Bancroft.{lorentz, products_to, rhs_to, pseudo, lambdas, all_finite, place_at, places, crossed, factored, bancroft}
use Rattle.starts.specs.Starts.{start_height, starts, starts_after}

-- ---- all of a list
abbrev Each : List (List Float) → Type 0
Each [] = Unit {0}
Each (p ∷ ps) = Formatted p × Each ps

joined : (ps qs : List (List Float)) → Each ps → Each qs → Each (ps ++ qs)
joined [] qs h k = k
joined (p ∷ ps) qs h k = (h.0, joined ps qs h.1 k)

pub at_place : (ps : List (List Float)) → Each ps → (i : ℕ) → Formatted (get_or ps i [])
at_place [] h i = λ k l. nan-fits binary64
at_place (p ∷ ps) h zero = h.0
at_place (p ∷ ps) h (suc i) = at_place ps h.1 i

either : (b : Bool) (ps qs : List (List Float)) → Each ps → Each qs → Each (cond b ps qs)
either true ps qs h k = h
either false ps qs h k = k

-- ---- a place lifted
lifted-formatted : (sites z : List Float) (k : ℕ) (g : Geodetic) (h : Float) → Formatted (lifted sites z k g h)
unfolding lifted timed to_ecef
lifted-formatted sites z k g h =
    formatted (lifted sites z k g h) (mul-fits binary64 _ _) (mul-fits binary64 _ _) (mul-fits binary64 _ _) (div-fits binary64 _ _)

module _ (sites z : List Float) (k : ℕ) (height : Float) (middle : List Float) (basis : List (List Float)) where
  circle-each : (radius : Float) (step : ℕ) → Each (circle_to sites z k height middle basis radius step)
  unfolding circle_to
  circle-each radius zero = tt
  circle-each radius (suc step) =
      let g : Geodetic = from_ecef (ring_place middle basis radius step) in
      joined (circle_to sites z k height middle basis radius step) (lifted sites z k g height ∷ []) (circle-each radius step)
      (lifted-formatted sites z k g height, tt)

  ring-each : Each (ring sites z k height middle basis)
  unfolding ring
  ring-each =
      joined (circle_to sites z k height middle basis (decimal 100000 0) 8) (circle_to sites z k height middle basis (decimal 300000 0) 8)
      (circle-each (decimal 100000 0) 8) (circle-each (decimal 300000 0) 8)

-- ---- Bancroft's roots
module _ (u v middle : List Float) where
  place-formatted : (lambda : Float) → Formatted (place_at u v middle lambda)
  place-formatted lambda =
      formatted (place_at u v middle lambda) (add-fits binary64 _ _) (add-fits binary64 _ _) (add-fits binary64 _ _) (add-fits binary64 _ _)

  places-each : (ls : List Float) → Each (places u v middle ls)
  unfolding places
  places-each [] = tt
  places-each (l ∷ ls) =
      let p : List Float = place_at u v middle l in
      joined (cond (all_finite p) (p ∷ []) []) (places u v middle ls) (either (all_finite p) (p ∷ []) [] (place-formatted l, tt) tt) (places-each ls)

  crossed-each : Each (crossed u v middle)
  unfolding crossed
  crossed-each = places-each (lambdas (lorentz u u) (two ⊗ (lorentz u v ⊖ one)) (lorentz v v))

factored-each : (f : Factor) (ones alpha middle : List Float) → Each (factored f ones alpha middle)
factored-each (refused l) ones alpha middle = tt
factored-each (found l) ones alpha middle = crossed-each (pseudo l ones) (pseudo l alpha) middle

bancroft-each : (sites z : List Float) (k : ℕ) (middle : List Float) → Each (bancroft sites z k middle)
unfolding bancroft
bancroft-each sites z k middle = factored-each (cholesky (products_to sites z middle k) 4 (replicate 16 nought))
    (rhs_to sites z middle false k) (rhs_to sites z middle true k) middle

-- ---- the starts
starts-each : (sites z : List Float) (k : ℕ) (altitude : Altitude) → Each (starts sites z k altitude)
unfolding starts
starts-each sites z k altitude =
    let middle = centroid sites k in
    let ground = from_ecef middle in
    let height = start_height altitude in
    let basis = enu_basis ground.lat_deg ground.lon_deg in
    let above = lifted-formatted sites z k ground height in
    either (leb 4 k) (bancroft sites z k middle ++ (lifted sites z k ground height ∷ []))
    (lifted sites z k ground height ∷ ring sites z k height middle basis)
    (joined (bancroft sites z k middle) (lifted sites z k ground height ∷ []) (bancroft-each sites z k middle) (above, tt))
    (above, ring-each sites z k height middle basis)

pub starts-formatted
    : (had : Bool) (previous sites z : List Float) (k : ℕ) (altitude : Altitude) → Formatted previous
    → (i : ℕ) → Formatted (get_or (starts_after had previous sites z k altitude) i [])
unfolding starts_after
starts-formatted had previous sites z k altitude h =
    at_place (cond had (four (nth previous) ∷ []) [] ++ starts sites z k altitude)
    (joined (cond had (four (nth previous) ∷ []) []) (starts sites z k altitude)
    (either had (four (nth previous) ∷ []) [] (
      formatted (four (nth previous)) (h 0 (omega arith)) (h 1 (omega arith)) (h 2 (omega arith))
          (h 3 (omega arith)),
      tt,
    ) tt)
    (starts-each sites z k altitude))
