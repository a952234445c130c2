-- A state as the code holds it. Nothing that must be believed cites it. Definitions only.
use Rattle.std.specs.Prelude.{List, ℕ, get_or, Float}
use Rattle.dense.specs.Entries.{nth}
use Rattle.sets.specs.Mask.{has}
use Rattle.why.specs.declared.State.{State}
use Rattle.why.specs.States.{state_by}

-- `state_by` what the code holds of n receptions: the mask of the used; arrays of turns, clash counts, residuals
abbrev pub state_in : ℕ → List ℕ → List ℕ → List Float → ℕ → State
state_in mask turns clashes z j = state_by (has mask j) (get_or turns j 0) (get_or clashes j 0) (nth z j)
