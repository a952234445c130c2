-- What the loop of `from_ecef` leaves is what six rounds give, also where it is left before: a round that hands x back has the same latitude after
-- it, so every later one is the same round. Assumes nothing.
use Rattle.std.proofs.Common.{◌≡◌, ℕ, zero, suc, ◌<◌, ap, ◌∙◌, inl, inr, le_of_suc-le-suc, eq-or-lt_of_le, arith}
use lib.Ieee.{Float}
use Rattle.libm.specs.Atan.{atan2}
use Rattle.geo.specs.declared.Round.{Round}
use Rattle.geo.specs.Geo.{bowring, bowring_to}

module _ (p z : Float) (k : ℕ) (x : Float) where
  stays : (bowring_to p z k).x ≡ x → (bowring p z (atan2 z x)).x ≡ x → (n : ℕ) → k < n → bowring_to p z n ≡ bowring p z (atan2 z x)
  unfolding bowring_to
  stays s e zero h = absurd (omega arith)
  stays s e (suc n) h = elim (eq-or-lt_of_le (le_of_suc-le-suc h))
      [ inl same ↦ rw (← same, s) | inr l ↦ ap (λ (y : Float). bowring p z (atan2 z y)) (ap (λ (r : Round). r.x) (stays s e n l) ∙ e) ]

  module _ (now height : Float) (made : bowring_to p z k ≡ record { height = now; x = x }) where
    pub all : k ≡ 6 → height ≡ now → bowring_to p z 6 ≡ record { height = height; x = x }
    all six t = rw (t, ← six) made

    pub settled : (lat : Float) (next : Round) → k < 6 → lat ≡ atan2 z x → next ≡ bowring p z lat → next.x ≡ x → height ≡ next.height
        → bowring_to p z 6 ≡ record { height = height; x = x }
    settled lat next h a n e t =
        let again : bowring p z (atan2 z x) ≡ record { height = height; x = x } = rw (← a, ← n, t, ← e) in
        stays (ap (λ (r : Round). r.x) made) (ap (λ (r : Round). r.x) again) 6 h ∙ again
