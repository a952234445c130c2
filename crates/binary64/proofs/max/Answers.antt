-- `binary64::max` meets its contract: the test that it makes is the definition's (`chosen`). Assumes nothing.
use mathlib.Core.Path.{◌≡◌}
use mathlib.Core.Bool.{Bool, true, false, cond}
use lib.Ieee.{Float, lt}
use Rattle.binary64.specs.Steps.{max_of}
use Rattle.binary64.proofs.max.Goals as goal

chosen : (a b : Float) (t : Bool) → lt b a ≡ t → cond t a b ≡ max_of a b
unfolding max_of
chosen a b t h = rw h

pub returns-then-b-a : goal.returns-then-b-a
returns-then-b-a c = chosen _ _ true c.if-b-a.true

pub returns : goal.returns
returns c = chosen _ _ false c.if-b-a.false
