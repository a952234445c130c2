-- Lists packed one behind the other, as the functions of the crate pack them. Assumes nothing.
use Rattle.std.proofs.Common.{◌≡◌, ℕ, suc, true, false, cond, leb, List, [], ◌∷◌, ◌++◌, sym, refl, ap, ◌∙◌}
use lib.Ieee.{Float}
use Rattle.geo.specs.Geo.{from_ecef, enu_basis}
use Rattle.geo.specs.declared.Geodetic.{Geodetic}
use Rattle.problem.specs.declared.Altitude.{Altitude}
use Rattle.starts.specs.declared.Points.{Points}
use Rattle.starts.specs.Held.{empty, push, packed}
use Rattle.starts.specs.Lifted.{centroid, lifted, ring_place, circle_to, ring}
use Rattle.starts.specs.Bancroft.{all_finite, place_at, places, bancroft}
use Rattle.starts.specs.Starts.{start_height, starts}

pub packed-append : (p : Points) (a b : List (List Float)) → packed p (a ++ b) ≡ packed (packed p a) b
unfolding packed
packed-append p [] b = refl
packed-append p (x ∷ a) b = packed-append (push p x) a b

pub packed-last : (p : Points) (a : List (List Float)) (x : List Float) → packed p (a ++ (x ∷ [])) ≡ push (packed p a) x
unfolding packed
packed-last p a x = packed-append p a (x ∷ [])

-- no root, and two
module _ (p : Points) (u v centroid : List Float) where
  pub no-place : p ≡ packed p (places u v centroid [])
  unfolding packed places
  no-place = refl

  pub two-places : (l m : Float) → packed (packed p (places u v centroid (l ∷ []))) (places u v centroid (m ∷ []))
      ≡ packed p (places u v centroid (l ∷ m ∷ []))
  unfolding packed places
  two-places l m =
      let a : List (List Float) = cond (all_finite (place_at u v centroid l)) (place_at u v centroid l ∷ []) [] in
      let b : List (List Float) = places u v centroid (m ∷ []) in
      ap (λ (q : Points). packed q b) (packed-append p a []) ∙ sym (packed-append p a b)

-- one start of a circle more
pub circle-more : (p q r : Points) (sites z : List Float) (k : ℕ) (height : Float) (centroid : List Float) (basis : List (List Float))
    (radius : Float) (step : ℕ)
    → q ≡ packed p (circle_to sites z k height centroid basis radius step)
    → (at : List Float) → at ≡ ring_place centroid basis radius step → (place : Geodetic) → place ≡ from_ecef at → (x : List Float) → x
    ≡ lifted sites z k place height
    → r ≡ push q x → r ≡ packed p (circle_to sites z k height centroid basis radius (suc step))
unfolding circle_to
circle-more p q r sites z k height centroid basis radius step e at f place g x h i =
    i ∙ rw (e, h, g, f) (sym (packed-last p (circle_to sites z k height centroid basis radius step)
    (lifted sites z k (from_ecef (ring_place centroid basis radius step)) height)))

-- all starts, from what the callees of `starts` give
module _ (first : List (List Float)) (sites z : List Float) (k : ℕ) (altitude : Altitude) (middle : List Float) (ground : Geodetic) (height : Float)
    (above : List Float) (p r : Points)
    (m : middle ≡ centroid sites k) (g : ground ≡ from_ecef middle) (h : height ≡ start_height altitude) (l : above ≡ lifted sites z k ground height)
    (f : p ≡ packed empty first) where
  pub starts-many : leb 4 k ≡ true → (q : Points) → q ≡ packed p (bancroft sites z k middle) → r ≡ push q above → r
      ≡ packed empty (first ++ starts sites z k altitude)
  unfolding starts
  starts-many four q b e =
      e ∙ rw (b, f, ← m, ← g, ← h, ← l, four)
      (sym (packed-append empty first (bancroft sites z k middle ++ (above ∷ []))
      ∙ packed-last (packed empty first) (bancroft sites z k middle) above))

  pub starts-few : leb 4 k ≡ false → (q : Points) (basis : List (List Float)) → basis ≡ enu_basis ground.lat_deg ground.lon_deg
      → q ≡ push p above
      → r ≡ packed q (ring sites z k height middle basis) → r ≡ packed empty (first ++ starts sites z k altitude)
  unfolding starts packed
  starts-few few q basis b a e =
      e ∙ rw (a, f, b, ← m, ← g, ← h, ← l, few)
      (sym (packed-append empty first (above ∷ ring sites z k height middle (enu_basis ground.lat_deg ground.lon_deg))))
