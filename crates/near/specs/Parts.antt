-- The nearest fix of a file that is looked at part by part, as a program without room for all of it does. Definitions
-- and one statement, which proofs/Parts.antt proves.
use Rattle.std.specs.Prelude.{◌≡◌, ℕ, ◌+◌, ◌%◌, ◌^◌, ◌<◌, cond, List, ◌++◌, length, ◌==◌, Float}
use Rattle.record.specs.Record.{record_bytes}
use Rattle.near.specs.declared.Held.{Held}
use Rattle.near.specs.Near.{records, none_held, held_to, step}
use Rattle.near.specs.Meaning.{Whole, Sound, GoodPoint}

-- the nearest of a part, by its place in the part, with its distance; none where the part is not whole records
unfoldable pub nearest_in : List ℕ → List Float → Held
nearest_in part point = cond (length part % record_bytes == 0) (held_to part point (records part)) none_held

-- that of two parts, the first of which has `base` records: the second's, where it is closer
unfoldable pub joined : Held → ℕ → Held → Held
joined first base second = step second.found ((base + second.place) % 2 ^ 64) second.distance first

-- The nearest fix of a file is that of its parts, wherever it is cut between records; a file is shorter than 2^64
-- bytes.
abbrev pub NearestOfParts : Type 0
NearestOfParts =
    (first second : List ℕ) (point : List Float) → Sound (first ++ second) → Whole first → GoodPoint point
    → length (first ++ second) < 2 ^ 64
    → joined (nearest_in first point) (records first) (nearest_in second point) ≡ nearest_in (first ++ second) point
