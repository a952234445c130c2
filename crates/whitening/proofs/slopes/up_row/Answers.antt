-- `whitening::slopes::up_row` meets its contract. By the promise of `enu_basis`. Assumes nothing.
use Rattle.whitening.specs.Whitened.{up_row}
use Rattle.whitening.proofs.slopes.up_row.Goals as goal

pub returns : goal.returns
unfolding up_row
returns c = rw c.enu_basis-basis.ensures
