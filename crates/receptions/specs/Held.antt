-- Receptions as the code holds them, in arrays by field. Nothing that must be believed cites it. Definitions only.
use Rattle.std.specs.Prelude.{◌≡◌, List, [], ◌∷◌, ℕ, ◌≤◌, ◌+◌, ◌*◌, ℤ, pos, replicate, get_or}
use Rattle.sets.specs.Sets.{most_receptions}
use Rattle.receptions.specs.declared.ObservationId.{ObservationId}
use Rattle.receptions.specs.declared.Reception.{Reception}
use Rattle.receptions.specs.declared.Fields.{Fields}
use Rattle.receptions.specs.Receptions.{fields_of}

-- an identity of zeros
abbrev pub blank_id : ObservationId
blank_id = record { receiver = replicate 32 0; epoch = 0; timestamp = 0; message = replicate 32 0 }

-- the arrays f hold these n receptions; of over 32 none is unpacked
abbrev pub Holds : Fields → ℕ → (ℕ → Reception) → Type 0
Holds f n at = n ≤ most_receptions → f ≡ fields_of at n

-- the arrays f hold n receptions
abbrev pub Filled : Fields → ℕ → Type 0
Filled f n = (at : ℕ → Reception) × Holds f n at

-- the three coordinates of site i
abbrev pub site_in : List ℤ → ℕ → List ℤ
site_in sites i =
    get_or sites (3 * i) (pos 0) ∷ get_or sites (3 * i + 1) (pos 0) ∷ get_or sites (3 * i + 2) (pos 0) ∷ []
