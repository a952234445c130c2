-- `libm::both::sincos` meets its contract: its fields are the two numbers that `sincos_into` writes. Assumes nothing.
use Rattle.libm.specs.Trig.{sincos}
use Rattle.libm.proofs.both.sincos.Goals as goal

pub returns : goal.returns
unfolding sincos
returns c = rw c.sincos_into.ensures
