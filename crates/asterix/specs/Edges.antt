-- Document 02, item 13: its own numbers and the ends of each range, to either side, as one table of calls. Statements
-- only: proofs/Edges.antt proves it.
use Rattle.std.specs.Prelude.{◌≡◌, List, [], ◌∷◌, ℕ, ℤ, pos, negsuc}
use Rattle.wire.specs.declared.Wire.{Wire}
use Rattle.asterix.specs.Items.{to_answer, to_output}

-- the wire's numbers; `negsuc n` is - (n + 1)
abbrev pub numbers : ℤ → ℤ → ℤ → Wire
numbers lat lon height = record { lat = lat; lon = lon; height = height }

-- lent bytes
abbrev pub nine : List ℕ
nine = 165 ∷ 165 ∷ 165 ∷ 165 ∷ 165 ∷ 165 ∷ 165 ∷ 165 ∷ 165 ∷ []

abbrev pub ten : List ℕ
ten = 165 ∷ nine

-- the ten bytes of a latitude alone, of a longitude and of a height
abbrev pub latitude : ℤ → List ℕ
latitude w = to_output (numbers w (pos 0) (pos 0)) ten

abbrev pub longitude : ℤ → List ℕ
longitude w = to_output (numbers (pos 0) w (pos 0)) ten

abbrev pub height : ℤ → List ℕ
height mm = to_output (numbers (pos 0) (pos 0) mm) ten

-- the call is turned away, and the lent bytes stay
abbrev pub Refused : Wire → List ℕ → Type 0
Refused w out = (to_answer w out ≡ 23) × (to_output w out ≡ out)

pub record ItemEdges : Type 0 where
  -- latitude 90 degrees is 2 ^ 24, and -90 is -2 ^ 24
  pub poles
      : (latitude (pos 900000000) ≡ 1 ∷ 0 ∷ 0 ∷ 0 ∷ 0 ∷ 0 ∷ 0 ∷ 0 ∷ 0 ∷ 0 ∷ [])
      × (latitude (negsuc 899999999) ≡ 255 ∷ 0 ∷ 0 ∷ 0 ∷ 0 ∷ 0 ∷ 0 ∷ 0 ∷ 0 ∷ 0 ∷ [])
  -- half a multiple is 26.8 units of the wire
  pub first_multiple
      : (latitude (pos 26) ≡ 0 ∷ 0 ∷ 0 ∷ 0 ∷ 0 ∷ 0 ∷ 0 ∷ 0 ∷ 0 ∷ 0 ∷ [])
      × (latitude (pos 27) ≡ 0 ∷ 0 ∷ 0 ∷ 1 ∷ 0 ∷ 0 ∷ 0 ∷ 0 ∷ 0 ∷ 0 ∷ [])
      × (latitude (negsuc 25) ≡ 0 ∷ 0 ∷ 0 ∷ 0 ∷ 0 ∷ 0 ∷ 0 ∷ 0 ∷ 0 ∷ 0 ∷ [])
      × (latitude (negsuc 26) ≡ 255 ∷ 255 ∷ 255 ∷ 255 ∷ 0 ∷ 0 ∷ 0 ∷ 0 ∷ 0 ∷ 0 ∷ [])
  -- "A longitude that comes to 2^25, which is 180 degrees, becomes -2^25": 180, the first that comes to it, and -180
  pub date_line
      : (longitude (pos 1800000000) ≡ 0 ∷ 0 ∷ 0 ∷ 0 ∷ 254 ∷ 0 ∷ 0 ∷ 0 ∷ 0 ∷ 0 ∷ [])
      × (longitude (pos 1799999974) ≡ 0 ∷ 0 ∷ 0 ∷ 0 ∷ 254 ∷ 0 ∷ 0 ∷ 0 ∷ 0 ∷ 0 ∷ [])
      × (longitude (negsuc 1799999999) ≡ 0 ∷ 0 ∷ 0 ∷ 0 ∷ 254 ∷ 0 ∷ 0 ∷ 0 ∷ 0 ∷ 0 ∷ [])
  -- and the multiples beside it
  pub beside_it
      : (longitude (pos 1799999973) ≡ 0 ∷ 0 ∷ 0 ∷ 0 ∷ 1 ∷ 255 ∷ 255 ∷ 255 ∷ 0 ∷ 0 ∷ [])
      × (longitude (negsuc 1799999972) ≡ 0 ∷ 0 ∷ 0 ∷ 0 ∷ 254 ∷ 0 ∷ 0 ∷ 1 ∷ 0 ∷ 0 ∷ [])
  -- "6.25 ft, which is 1,905 mm"; half of it is 952.5 mm
  pub steps
      : (height (pos 1905) ≡ 0 ∷ 0 ∷ 0 ∷ 0 ∷ 0 ∷ 0 ∷ 0 ∷ 0 ∷ 0 ∷ 1 ∷ [])
      × (height (pos 952) ≡ 0 ∷ 0 ∷ 0 ∷ 0 ∷ 0 ∷ 0 ∷ 0 ∷ 0 ∷ 0 ∷ 0 ∷ [])
      × (height (pos 953) ≡ 0 ∷ 0 ∷ 0 ∷ 0 ∷ 0 ∷ 0 ∷ 0 ∷ 0 ∷ 0 ∷ 1 ∷ [])
      × (height (negsuc 951) ≡ 0 ∷ 0 ∷ 0 ∷ 0 ∷ 0 ∷ 0 ∷ 0 ∷ 0 ∷ 0 ∷ 0 ∷ [])
      × (height (negsuc 952) ≡ 0 ∷ 0 ∷ 0 ∷ 0 ∷ 0 ∷ 0 ∷ 0 ∷ 0 ∷ 255 ∷ 255 ∷ [])
  -- the last heights of 16 bits, 32,767 and -32,768, and the first beyond
  pub heights
      : (height (pos 62422087) ≡ 0 ∷ 0 ∷ 0 ∷ 0 ∷ 0 ∷ 0 ∷ 0 ∷ 0 ∷ 127 ∷ 255 ∷ [])
      × (height (negsuc 62423991) ≡ 0 ∷ 0 ∷ 0 ∷ 0 ∷ 0 ∷ 0 ∷ 0 ∷ 0 ∷ 128 ∷ 0 ∷ [])
      × Refused (numbers (pos 0) (pos 0) (pos 62422088)) ten
      × Refused (numbers (pos 0) (pos 0) (negsuc 62423992)) ten
  -- beyond ±90 and ±180 degrees
  pub places
      : Refused (numbers (pos 900000001) (pos 0) (pos 0)) ten
      × Refused (numbers (negsuc 900000000) (pos 0) (pos 0)) ten
      × Refused (numbers (pos 0) (pos 1800000001) (pos 0)) ten
      × Refused (numbers (pos 0) (negsuc 1800000000) (pos 0)) ten
  -- "a length other than ten"
  pub lengths
      : Refused (numbers (pos 0) (pos 0) (pos 0)) nine
      × Refused (numbers (pos 0) (pos 0) (pos 0)) (165 ∷ ten)
      × Refused (numbers (pos 0) (pos 0) (pos 0)) []
