-- What callers of the sine, the cosine and the basis are promised of the numbers that they get. Document 02, Item 4:
-- "The display team multiplies by our basis vectors and wants a bound." Definitions only.
use Rattle.std.specs.Prelude.{◌≡◌, List, ℕ, ◌<◌, length, get_or, Float}
use Rattle.std.specs.Float.{nan}
use Rattle.binary64.specs.Steps.{decimal, one}
use Rattle.binary64.specs.Within.{Within}
use Rattle.libm.specs.Trig.{limit}
use Rattle.geo.specs.Meaning.{Turn}

-- r, a sine or a cosine of x, lies from -1 to 1 where x is within ±7, and is a not-a-number elsewhere
abbrev pub IsBounded : Float → Float → Type 0
IsBounded x r = (Within limit x → Within one r) × ((Within limit x → ⊥) → r ≡ nan)

-- so do both of a lent pair
abbrev pub AreBounded : Float → List Float → Type 0
AreBounded x pair = (k : ℕ) → k < 2 → IsBounded x (get_or pair k nan)

-- each number of a lent array lies from -1 to 1
abbrev pub EachWithinOne : List Float → Type 0
EachWithinOne numbers = (k : ℕ) → k < length numbers → Within one (get_or numbers k nan)

-- each of the nine does "for latitude within ±90 and longitude within ±180", and wherever sine and cosine take both
abbrev pub IsBoundedBasis : Float → Float → List Float → Type 0
IsBoundedBasis lat lon nine =
    (Within (decimal 90 0) lat → Within (decimal 180 0) lon → EachWithinOne nine)
    × (Turn lat → Turn lon → EachWithinOne nine)
