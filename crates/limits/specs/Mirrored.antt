-- Document 02, item 7: "The covariance is symmetric", of the one that is published. Definitions and statements only:
-- proofs/Mirrors.antt proves them.
use Rattle.std.specs.Prelude.{◌≡◌, List, ℕ, ◌<◌, Float}
use Rattle.dense.specs.Symmetry.{Symmetric}
use Rattle.limits.specs.Local.{entry, published}

-- of three rows of three, each two entries that mirror each other are the same value, to the bit
abbrev pub Mirrored : List (List Float) → Type 0
Mirrored c = (i j : ℕ) → i < 3 → j < 3 → entry c i j ≡ entry c j i

-- so it is with what `published` makes of a symmetric covariance
abbrev pub PublishedMirrored : Type 0
PublishedMirrored = (inverse : List Float) → Symmetric inverse 4 → Mirrored (published inverse)
