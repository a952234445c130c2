-- The statements of specs/Meaning.antt: an entry is 0, a sine or a cosine, or a product of two; degrees that an arc tangent gives come back as an
-- angle within ±7 (`atan2-in`); and the rounds of `from_ecef` give it numbers (`rounds-number`). Assumes nothing.
use Rattle.std.proofs.Common.{◌≡◌, ℕ, zero, suc, ◌<◌, Bool, true, false, not, ◌||◌, T, List, [], ◌∷◌, get_or, refl, subst, inl, inr, true≢false, arith}
use lib.Ieee.{Float, nan, binary64, round, mul, neg, le, ne, is_nan, fits, of_bits}
use lib.Ieee.Fits.{mul-fits}
use Rattle.binary64.specs.Steps.{◌⊗◌, decimal, nought, one}
use Rattle.binary64.specs.Meaning.{IsBinary64}
use Rattle.binary64.specs.Within.{Within}
use Rattle.binary64.proofs.Patterns.{number}
use Rattle.binary64.proofs.Units.{Is}
use Rattle.binary64.proofs.Interval.{In, neg_is}
use Rattle.binary64.proofs.Runs.{lit, times, range, check, check_sound}
use Rattle.binary64.proofs.Order.{cases, is-finite, within_in, in_within, weak}
use Rattle.binary64.proofs.Numbers.{finite-num}
use Rattle.libm.specs.Trig.{limit, sincos}
use Rattle.libm.specs.Atan.{atan2}
use Rattle.libm.specs.Hypotenuse.{hypot}
use Rattle.libm.proofs.KernelBounds.{Unit-in}
use Rattle.libm.proofs.ArcBounds.{arc2, atan2-in, atan2-nan}
use Rattle.libm.proofs.Meaning.{limit_is, neg-unit, sin-in, cos-in}
use Rattle.geo.specs.Geo.{to_radians, to_degrees, enu_basis, bowring_to, from_ecef}
use Rattle.geo.specs.Meaning.{EntriesWithinOne, Turn, BasisOfTurns, DegreesTurn, BasisWithinOne}
use Rattle.geo.specs.Meaning.{IsNumber, HasPlace, IsFinite, AtCentre, PlacesTurn, PlacesAreNumbers, NoneAtCentre, BasisOfPlaces}
use Rattle.geo.proofs.Places.{rounds-number, centre}

-- ---- the entries
product-passes : T (check (neg one) one (times 0 1 ∷ []) (range (neg one) one ∷ range (neg one) one ∷ []))
unfolding of_bits neg mul le fits
product-passes = tt

product-in : (x y : Float) → Unit-in x → Unit-in y → Unit-in (x ⊗ y)
product-in x y i j = check_sound (neg one) one (times 0 1 ∷ []) (range (neg one) one ∷ range (neg one) one ∷ []) (x ∷ y ∷ [])
    (i, (j, tt)) product-passes

nought-in : Unit-in nought
unfolding of_bits neg le fits
nought-in = record { lo-is = (tt, tt); hi-is = (tt, tt); is = (tt, tt); least = tt; most = tt }

row_in : (a b c : Float) → Unit-in a → Unit-in b → Unit-in c → (j : ℕ) → j < 3 → Within one (get_or (a ∷ b ∷ c ∷ []) j nan)
row_in a b c p q r zero h = in_within a one p
row_in a b c p q r (suc zero) h = in_within b one q
row_in a b c p q r (suc (suc zero)) h = in_within c one r
row_in a b c p q r (suc (suc (suc j))) h = absurd (omega arith)

rows_in : (a b c : List Float) → ((j : ℕ) → j < 3 → Within one (get_or a j nan)) → ((j : ℕ) → j < 3 → Within one (get_or b j nan))
    → ((j : ℕ) → j < 3 → Within one (get_or c j nan)) → EntriesWithinOne (a ∷ b ∷ c ∷ [])
rows_in a b c p q r zero j h k = p j k
rows_in a b c p q r (suc zero) j h k = q j k
rows_in a b c p q r (suc (suc zero)) j h k = r j k
rows_in a b c p q r (suc (suc (suc i))) j h k = absurd (omega arith)

radians-fit : (deg : Float) → IsBinary64 (to_radians deg)
unfolding to_radians
radians-fit deg = mul-fits binary64 deg (decimal 17453292519943295769236907684886 33)

turn-in : (deg : Float) → Turn deg → In binary64 (neg limit) limit (to_radians deg)
turn-in deg t = within_in (to_radians deg) limit (radians-fit deg) limit_is t

entries-in : (lat_deg lon_deg : Float) → Turn lat_deg → Turn lon_deg → EntriesWithinOne (enu_basis lat_deg lon_deg)
unfolding enu_basis sincos
entries-in lat_deg lon_deg t u =
    let i = turn-in lat_deg t in
    let j = turn-in lon_deg u in
    let sin_lat = sin-in (to_radians lat_deg) i in
    let cos_lat = cos-in (to_radians lat_deg) i in
    let sin_lon = sin-in (to_radians lon_deg) j in
    let cos_lon = cos-in (to_radians lon_deg) j in
    let minus = neg-unit _ sin_lat in
    rows_in _ _ _ (row_in _ _ _ (neg-unit _ sin_lon) cos_lon nought-in)
    (row_in _ _ _ (product-in _ _ minus cos_lon) (product-in _ _ minus sin_lon) cos_lat)
    (row_in _ _ _ (product-in _ _ cos_lat cos_lon) (product-in _ _ cos_lat sin_lon) sin_lat)

pub basis-of-turns : BasisOfTurns
basis-of-turns lat_deg lon_deg t u = entries-in lat_deg lon_deg t u

-- ---- degrees
abbrev most : Float
most = decimal 401 0

radians-pass : T (check (neg limit) limit (lit (decimal 17453292519943295769236907684886 33) ∷ times 1 0 ∷ []) (range (neg most) most ∷ []))
unfolding of_bits round neg mul le fits
radians-pass = tt

most-is : Is binary64 most
unfolding round fits
most-is = (tt, tt)

degrees-in : (deg : Float) → In binary64 (neg most) most deg → Turn deg
unfolding to_radians
degrees-in deg i = in_within _ limit
    (check_sound (neg limit) limit (lit (decimal 17453292519943295769236907684886 33) ∷ times 1 0 ∷ []) (range (neg most) most ∷ []) (deg ∷ [])
    (i, tt) radians-pass)

turns : (deg : Float) → IsBinary64 deg → Within most deg → Turn deg
turns deg f w = degrees-in deg (within_in deg most f most-is w)

pub degrees-turn : DegreesTurn
degrees-turn deg f w = turns deg f w

-- a quarter and a half of the way round are among them
wider : (c deg : Float) → Is binary64 c → T (le (neg most) (neg c)) → T (le c most) → IsBinary64 deg → Within c deg → Turn deg
wider c deg p l h f w =
    degrees-in deg (weak (neg most) most (neg c) c deg (neg_is binary64 most most-is) most-is l h (within_in deg c f p w))

quarter-turn : (deg : Float) → IsBinary64 deg → Within (decimal 90 0) deg → Turn deg
unfolding round neg le fits
quarter-turn deg f w = wider (decimal 90 0) deg (tt, tt) tt tt f w

half-turn : (deg : Float) → IsBinary64 deg → Within (decimal 180 0) deg → Turn deg
unfolding round neg le fits
half-turn deg f w = wider (decimal 180 0) deg (tt, tt) tt tt f w

pub basis-within-one : BasisWithinOne
basis-within-one lat_deg lon_deg f g w v = entries-in lat_deg lon_deg (quarter-turn lat_deg f w) (half-turn lon_deg g v)

-- ---- places
degrees-pass : T (check (neg most) most (lit (decimal 57295779513082320876798154814105 30) ∷ times 1 0 ∷ []) (range (neg arc2) arc2 ∷ []))
unfolding round neg mul le fits
degrees-pass = tt

-- the degrees of an arc tangent of numbers
arc-in : (y x : Float) → IsBinary64 y → IsNumber y → IsNumber x → In binary64 (neg most) most (to_degrees (atan2 y x))
unfolding to_degrees
arc-in y x f n m =
    check_sound (neg most) most (lit (decimal 57295779513082320876798154814105 30) ∷ times 1 0 ∷ []) (range (neg arc2) arc2 ∷ []) (atan2 y x ∷ [])
    (atan2-in y x f n m, tt) degrees-pass

nan-degrees : is_nan (to_degrees nan) ≡ true
unfolding to_degrees mul is_nan
nan-degrees = refl

arc-turn : (y x : Float) → IsBinary64 y → IsNumber (to_degrees (atan2 y x)) → Turn (to_degrees (atan2 y x))
arc-turn y x f n = elim (cases (ne x x || ne y y)) [
  | inl h ↦
      absurd (subst (λ (b : Bool). T (not b)) nan-degrees
      (subst (λ (z : Float). T (not (is_nan (to_degrees z)))) (atan2-nan y x h) n))
  | inr h ↦ degrees-in _ (arc-in y x f (number y (right (ne x x) (ne y y) h)) (number x (left (ne x x) (ne y y) h)))
]
  where
    left : (a b : Bool) → (a || b) ≡ false → a ≡ false
    left true b h = h
    left false b h = refl

    right : (a b : Bool) → (a || b) ≡ false → b ≡ false
    right true b h = absurd (true≢false h)
    right false b h = h

place-turns : (ecef : List Float) → ((k : ℕ) → IsBinary64 (get_or ecef k nan)) → HasPlace (from_ecef ecef)
    → Turn (from_ecef ecef).lat_deg × Turn (from_ecef ecef).lon_deg
unfolding from_ecef
place-turns ecef f n =
    let x = get_or ecef 0 nan in
    let y = get_or ecef 1 nan in
    let z = get_or ecef 2 nan in
    (arc-turn z (bowring_to (hypot x y) z 6).x (f 2) n.0, arc-turn y x (f 1) n.1)

pub places-turn : PlacesTurn
places-turn ecef f n = place-turns ecef f n

arc-number : (y x : Float) → IsBinary64 y → IsNumber y → IsNumber x → IsNumber (to_degrees (atan2 y x))
arc-number y x f n m = finite-num _ (arc-in y x f n m).is.1

-- ---- every point but the centre
module _ (x y z : Float) (f : IsFinite x) (g : IsFinite y) (h : IsFinite z) (n : AtCentre x y z → ⊥) where
  has-place : HasPlace (from_ecef (x ∷ y ∷ z ∷ []))
  unfolding from_ecef
  has-place =
      let is : (v : Float) → IsFinite v → Is binary64 v = λ v i. (i.0, is-finite v i.1) in
      let number : (v : Float) → IsFinite v → IsNumber v = λ v i. finite-num v (is-finite v i.1) in (
        arc-number z (bowring_to (hypot x y) z 6).x h.0 (number z h) (rounds-number x y z (is x f) (is y g) (is z h) n 6),
        arc-number y x g.0 (number y g) (number x f),
      )

  fit : (k : ℕ) → IsBinary64 (get_or (x ∷ y ∷ z ∷ []) k nan)
  unfolding fits
  fit zero = f.0
  fit (suc zero) = g.0
  fit (suc (suc zero)) = h.0
  fit (suc (suc (suc k))) = tt

pub places-are-numbers : PlacesAreNumbers
places-are-numbers x y z f g h n = has-place x y z f g h n

pub none-at-centre : NoneAtCentre
unfolding from_ecef
none-at-centre x y z f g h t = centre x y z f g h t

pub basis-of-places : BasisOfPlaces
basis-of-places x y z f g h n =
    let t = place-turns (x ∷ y ∷ z ∷ []) (fit x y z f g h n) (has-place x y z f g h n) in
    entries-in _ _ t.0 t.1
