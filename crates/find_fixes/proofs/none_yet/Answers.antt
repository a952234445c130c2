-- `find_fixes::none_yet` meets its contract: no bytes have no fix. Assumes nothing.
use Rattle.std.proofs.Common.{refl}
use Rattle.sets.specs.Choice.{choose}
use Rattle.near.specs.Near.{held_of}
use Rattle.near.specs.Parts.{nearest_in}
use Rattle.find_fixes.proofs.none_yet.Goals as goal

pub returns : goal.returns
unfolding nearest_in held_of choose
returns c = (λ point. record { whole = refl; before = refl; held = refl }, refl)
