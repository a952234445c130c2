-- The centre of the earth has no height, so a place whose height lies within limits is elsewhere; and a finite point elsewhere has a finite latitude
-- and longitude. Assumes nothing.
use Rattle.std.proofs.Common.{◌≡◌, ℕ, zero, suc, true, ◌&&◌, T, [], ◌∷◌, get_or, ap, ◌∙◌, subst, inl, inr}
use lib.Ieee.{Float, nan, binary64, round, neg, add, sub, mul, div, lt, le, eq, ne, of_bits, to_bits}
use lib.Ieee.Fits.{and_l, and_r, nan-fits, mul-fits}
use lib.Ieee.Scale.{finite}
use Rattle.binary64.specs.Steps.{nought, decimal, abs, is_finite}
use Rattle.binary64.specs.Root.{root}
use Rattle.binary64.specs.Meaning.{IsBinary64}
use Rattle.binary64.proofs.Order.{finite-is, within_in}
use Rattle.binary64.proofs.Finite.{mul-finite}
use Rattle.libm.specs.Words.{high, negative, switch}
use Rattle.libm.specs.Kernels.{k_sin, k_cos}
use Rattle.libm.specs.Trig.{limit, sin, cos, sincos}
use Rattle.libm.specs.Atan.{signs, atan2}
use Rattle.libm.proofs.Meaning.{limit_is}
use Rattle.geo.specs.Geo.{A, F, E2, to_radians, prime_vertical, height, bowring, bowring_to, from_ecef}
use Rattle.geo.specs.Meaning.{Turn, IsFinite, AtCentre}
use Rattle.geo.proofs.Places.{Zero, zero_test, no_length}
use Rattle.geo.proofs.Meaning.{places-turn, places-are-numbers}

-- ---- the centre
no-height : (z : Float) → Zero z → (bowring_to nought z 6).height ≡ nan
unfolding bowring_to bowring height prime_vertical A E2 F sincos sin cos k_sin k_cos atan2 signs high negative switch root abs neg add sub mul
    div lt le eq ne round of_bits to_bits
no-height z (inl e) = ap (λ (v : Float). (bowring_to nought v 6).height) e
no-height z (inr e) = ap (λ (v : Float). (bowring_to nought v 6).height) e

pub centre-height
    : (x y z : Float) → IsBinary64 x → IsBinary64 y → IsBinary64 z → AtCentre x y z → (from_ecef (x ∷ y ∷ z ∷ [])).height_m ≡ nan
unfolding from_ecef
centre-height x y z f g h t =
    let u = and_l (eq x nought) (eq y nought && eq z nought) t in
    let v = and_r (eq x nought) (eq y nought && eq z nought) t in
    ap (λ (p : Float). (bowring_to p z 6).height)
    (no_length x y (zero_test x f u) (zero_test y g (and_l (eq y nought) (eq z nought) v)))
    ∙ no-height z (zero_test z h (and_r (eq y nought) (eq z nought) v))

-- ---- a place whose height is finite
no-number : T (finite nan) → ⊥
no-number h = h

turn-finite : (deg : Float) → Turn deg → is_finite deg ≡ true
unfolding to_radians
turn-finite deg t =
    let i = within_in (to_radians deg) limit (mul-fits binary64 deg (decimal 17453292519943295769236907684886 33)) limit_is t in
    finite-is deg (mul-finite binary64 deg (decimal 17453292519943295769236907684886 33) i.is.1).0

module _ (x y z : Float) (f : IsFinite x) (g : IsFinite y) (h : IsFinite z) where
  pub elsewhere : T (finite (from_ecef (x ∷ y ∷ z ∷ [])).height_m) → AtCentre x y z → ⊥
  elsewhere k t = no-number (subst (λ (v : Float). T (finite v)) (centre-height x y z f.0 g.0 h.0 t) k)

  fit : (k : ℕ) → IsBinary64 (get_or (x ∷ y ∷ z ∷ []) k nan)
  fit zero = f.0
  fit (suc zero) = g.0
  fit (suc (suc zero)) = h.0
  fit (suc (suc (suc k))) = nan-fits binary64

  pub place-finite
      : T (finite (from_ecef (x ∷ y ∷ z ∷ [])).height_m)
      → (is_finite (from_ecef (x ∷ y ∷ z ∷ [])).lat_deg ≡ true) × (is_finite (from_ecef (x ∷ y ∷ z ∷ [])).lon_deg ≡ true)
  place-finite k =
      let t = places-turn (x ∷ y ∷ z ∷ []) fit (places-are-numbers x y z f g h (elsewhere k)) in
      (turn-finite (from_ecef (x ∷ y ∷ z ∷ [])).lat_deg t.0, turn-finite (from_ecef (x ∷ y ∷ z ∷ [])).lon_deg t.1)
