-- Receptions that the checks passed, as the code holds them. Nothing that must be believed cites it. Definitions only.
use Rattle.std.specs.Prelude.{◌≡◌, true, List, ℕ}
use Rattle.receptions.specs.declared.Reception.{Reception}
use Rattle.receptions.specs.declared.Fields.{Fields}
use Rattle.receptions.specs.Receptions.{fields_of}
use Rattle.inputs.specs.declared.Given.{Given}
use Rattle.inputs.specs.Faults.{passed}
use Rattle.inputs.specs.Inputs.{inputs_of, check_inputs}

-- the arrays f hold n receptions that, with the other inputs, nothing turns away
abbrev pub Passing : Fields → ℕ → Given → List ℕ → List ℕ → List ℕ → Type 0
Passing f n g clock altitude reference =
    (at : ℕ → Reception)
    × ((f ≡ fields_of at n) × (check_inputs (inputs_of true n at g clock altitude reference) ≡ passed))
