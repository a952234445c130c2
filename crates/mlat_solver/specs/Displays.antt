-- Document 02, item 13, as C has it: multiples as the three numbers of a lent array. A refusal leaves the array as
-- found. Definitions only.
use Rattle.std.specs.Prelude.{List, [], ◌∷◌, ℤ, pos, get_or, Result, Ok, Err}
use Rattle.refusals.specs.declared.Refusal.{Refusal}
use Rattle.asterix.specs.declared.Multiples.{Multiples}

-- latitude, longitude, height
abbrev pub three_of : List ℤ → Multiples
three_of m = record { lat = get_or m 0 (pos 0); lon = get_or m 1 (pos 0); height = get_or m 2 (pos 0) }

abbrev pub multiples_after : Result Multiples Refusal → List ℤ → List ℤ
multiples_after (Ok m) found = m.lat ∷ m.lon ∷ m.height ∷ []
multiples_after (Err _) found = found
