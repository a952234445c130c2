-- The lengths of a problem's inputs, or the marks of absent ones, as the numbers of a lent array, which C has in their
-- place. Definitions only.
use Rattle.std.specs.Prelude.{ℕ, List, [], ◌∷◌, get_or}
use Rattle.stream.specs.declared.Head.{Head}

-- receptions, clock covariance, altitude, reference
abbrev pub head_by : List ℕ → Head
head_by lengths = record {
  receptions = get_or lengths 0 0;
  clock = get_or lengths 1 0;
  altitude = get_or lengths 2 0;
  reference = get_or lengths 3 0;
}

abbrev pub four_of : Head → List ℕ
four_of h = h.receptions ∷ h.clock ∷ h.altitude ∷ h.reference ∷ []
