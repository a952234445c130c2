-- `test_inputs::answered` meets its contract: a problem is made where the check passed.
use mathlib.Core.Path.{◌≡◌, sym, subst, ◌∙◌}
use mathlib.Core.Bool.{Bool}
use mathlib.Core.List.{List}
use Prim.Native.Nat.{ℕ, ◌/◌, ◌%◌}
use lib.Dec.{eqb}
use lib.ListN.{length}
use Rattle.receptions.specs.Receptions.{reception_bytes, reception_at}
use Rattle.inputs.specs.Faults.{passed}
use Rattle.inputs.specs.Inputs.{Inputs, inputs_of, check_inputs}
use Rattle.inputs.proofs.Order.{is_whole, few}
use Rattle.test_inputs.proofs.answered.Goals as goal

pub problem_of-made-requires : goal.problem_of-made-requires
problem_of-made-requires c =
    let a = c.args in
    let bytes : List ℕ = a.receptions.now in
    let lent : Bool → Inputs =
    λ w. inputs_of w (length bytes / reception_bytes) (reception_at bytes) a.g a.clock.now a.altitude.now a.reference.now in
    let held = c.unpacked-f.ensures in
    let given : Inputs = lent (eqb (length bytes % reception_bytes) 0) in
    let e : check_inputs given ≡ passed = sym (c.check_inputs.ensures (reception_at bytes) held) ∙ c.in-Ok.is in
    let as_whole = subst (λ (w : Bool). check_inputs (lent w) ≡ passed) (is_whole given e) e in
    (reception_at bytes, (held (few given e), as_whole))
