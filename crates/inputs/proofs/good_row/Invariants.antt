-- `inputs::good_row` meets its contract: the tests so far are those of the entries from the diagonal to the one before j (`row_next`). Assumes
-- nothing.
use mathlib.Core.Path.{◌≡◌}
use mathlib.Core.Bool.{true}
use Prim.Native.Nat.{◌-◌, ◌≤◌}
use Rattle.inputs.specs.Inputs.{good_row_to}
use Rattle.inputs.proofs.good_row.Given as goal

abbrev pub invariant-loop-j : goal.invariant-loop-j
invariant-loop-j l = (l.i ≤ l.j) × (l.j ≤ l.n) × (good_row_to l.clock l.n l.i (l.j - l.i) ≡ true)
