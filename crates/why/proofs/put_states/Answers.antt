-- `why::put_states` meets its contract: after i turns the states of the first i receptions are written (`states-next`). Assumes nothing.
use mathlib.Core.Path.{◌≡◌, refl, ap, ◌∙◌}
use native.Mathlib.Omega.{arith}
use lib.ListN.{length}
use Rattle.why.specs.States.{states_to}
use Rattle.why.proofs.Writing.{states-length, states-next}
use Rattle.why.proofs.put_states.Goals as goal

pub loop-i-init : goal.loop-i-init
unfolding states_to
loop-i-init c = (omega arith, refl, refl)

pub loop-i-preserved : goal.loop-i-preserved
loop-i-preserved c =
    let is = rw c.has.ensures at c.state_by-s.ensures in
    let next = states-next _ _ c.loop-i.i _ _ _ c.loop-i.invariant.2 is c.put_state.ensures in
    (omega arith, ap length next ∙ states-length _ _ _, next)

pub shape_of-out : goal.shape_of-out
shape_of-out c = c.loop-i.invariant.1

pub returns : goal.returns
returns c = let all : c.loop-i.i ≡ c.args.n = omega arith in rw all at c.loop-i.invariant.2
