-- What callers of `mlat_sqrt` and `mlat_round` are promised of the number that they get, in the words of binary64,
-- specs/Meaning.antt. Definitions only.
use Rattle.std.specs.Prelude.{◌≡◌, Bool, true, false, ℕ, ◌<◌, Float}
use Rattle.std.specs.Float.{nan, inf}
use Rattle.binary64.specs.Meaning.{HasUnits, NearestRoot, RoundedHalfAway}

-- r is the root of x. Document 01: "the binary64 nearest the exact root", "-0 gives -0, negatives give not-a-number".
-- The rest is IEEE 754's.
pub record IsRoot (x r : Float) : Type 0 where
  pub nearest : (a : ℕ) → HasUnits x false a → 0 < a → NearestRoot a r
  pub zeros : (s : Bool) → HasUnits x s 0 → r ≡ x
  pub negatives : (a : ℕ) → HasUnits x true a → 0 < a → r ≡ nan
  pub infinities : (x ≡ inf false → r ≡ inf false) × (x ≡ inf true → r ≡ nan)
  pub others : x ≡ nan → r ≡ nan

-- r is x rounded. Document 01: "half away from zero, to an f64", "infinities and not-a-numbers pass through".
pub record IsRounded (x r : Float) : Type 0 where
  pub finite : (s : Bool) (a : ℕ) → HasUnits x s a → RoundedHalfAway s a r
  pub infinities : (s : Bool) → x ≡ inf s → r ≡ inf s
  pub others : x ≡ nan → r ≡ nan
