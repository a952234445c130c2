-- What `root` and `half_away` mean, for a reader who knows IEEE 754. The statements fix both at every binary64.
-- Statements only: proofs/Meaning.antt proves each. All is said in whole numbers. A unit is the smallest binary64 above
-- 0, which is 2 ^ -1074. So 1 is 2 ^ 1074 units, and every finite binary64 is a whole number of them.
use Rattle.std.specs.Prelude.{◌≡◌, ℕ, ◌+◌, ◌-◌, ◌*◌, ◌^◌, ◌≤◌, ◌<◌, Bool, true, false, T, Float}
use Rattle.std.specs.Float.{nan, inf, binary64}
use Rattle.std.specs.Float.Ieee.{fits}
use Rattle.std.specs.Float.Ieee.Exact.{HasValue}
use Rattle.binary64.specs.Steps.{is_finite}
use Rattle.binary64.specs.Root.{root}
use Rattle.binary64.specs.Rounding.{half_away}

-- x is a value of the format
abbrev pub IsBinary64 : Float → Type 0
IsBinary64 x = T (fits binary64 x)

-- x is finite, has the sign s (true for minus), and is exactly a units in size. `HasValue x s a c` of the library says
-- so of a / c.
abbrev pub HasUnits : Float → Bool → ℕ → Type 0
HasUnits x s a = HasValue x s a (2 ^ 1074)

-- every finite binary64 has such a size, so what follows leaves none out
abbrev pub FiniteHasUnits : Type 0
FiniteHasUnits = (x : Float) → IsBinary64 x → is_finite x ≡ true → (s : Bool) × (a : ℕ) × HasUnits x s a

-- ---- the root

-- √n lies nearer to r than to b, or to -b where the sign is true: strictly on r's side of the middle of the two, (r +
-- b) / 2 or (r - b) / 2. √n and the middle are doubled and squared, so that no root is left. Where b is r or more, the
-- middle of r and -b is not above 0, and √n is.
abbrev pub Nearer : ℕ → ℕ → Bool → ℕ → Type 0
Nearer n r false b = (r < b → 4 * n < (r + b) * (r + b)) × (b < r → (r + b) * (r + b) < 4 * n)
Nearer n r true b = b < r → (r - b) * (r - b) < 4 * n

-- The exact root of a units is √(a * 2 ^ 1074) units. v is a binary64 of r units, and every other finite binary64 y,
-- which is b or -b units, lies farther from that root.
pub record NearestRoot (a : ℕ) (v : Float) : Type 0 where
  pub binary : IsBinary64 v
  pub r : ℕ
  pub value : HasUnits v false r
  pub nearest : (y : Float) (s : Bool) (b : ℕ) → IsBinary64 y → HasUnits y s b → Nearer (a * 2 ^ 1074) r s b

-- Document 01: "the binary64 nearest the exact root, ties to even". For every finite x above 0, `root x` is that
-- binary64, and nothing else is. `Nearer` is strict, so no other binary64 is as near as `root x`: a tie never comes up,
-- and "to even" never decides.
abbrev pub RootIsNearest : Type 0
RootIsNearest = (x : Float) (a : ℕ) → IsBinary64 x → HasUnits x false a → 0 < a → NearestRoot a (root x)
    × ((v : Float) → NearestRoot a v → v ≡ root x)

-- Document 01: "-0 gives -0, negatives give not-a-number". The rest is IEEE 754's.
pub record RootElsewhere : Type 0 where
  pub zeros : (x : Float) (s : Bool) → HasUnits x s 0 → root x ≡ x
  pub negatives : (x : Float) (a : ℕ) → HasUnits x true a → 0 < a → root x ≡ nan
  pub others : (root (inf false) ≡ inf false) × (root (inf true) ≡ nan) × (root nan ≡ nan)

-- ---- rounding

-- Of an x with the sign s and a units in size: v is a binary64 and a whole number q with that sign, and |x| - 1/2 < |v|
-- ≤ |x| + 1/2, in units and doubled. So v is at most a half away, and at a tie it is the one farther from zero.
pub record RoundedHalfAway (s : Bool) (a : ℕ) (v : Float) : Type 0 where
  pub binary : IsBinary64 v
  pub q : ℕ
  pub value : HasValue v s q 1
  pub within : (2 * a < 2 * (q * 2 ^ 1074) + 2 ^ 1074) × (2 * (q * 2 ^ 1074) ≤ 2 * a + 2 ^ 1074)

-- Document 01: "Rounding half away from zero, to an f64". For every finite x, `half_away x` is so rounded, and nothing
-- else is.
abbrev pub RoundsHalfAway : Type 0
RoundsHalfAway = (x : Float) (s : Bool) (a : ℕ) → IsBinary64 x → HasUnits x s a → RoundedHalfAway s a (half_away x)
    × ((v : Float) → RoundedHalfAway s a v → v ≡ half_away x)

-- Document 01: "infinities and not-a-numbers pass through"
abbrev pub OthersPassThrough : Type 0
OthersPassThrough = ((s : Bool) → half_away (inf s) ≡ inf s) × (half_away nan ≡ nan)
