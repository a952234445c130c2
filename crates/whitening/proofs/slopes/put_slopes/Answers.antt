-- `whitening::slopes::put_slopes` meets its contract. Four stores. Assumes nothing.
use mathlib.Core.Path.{refl}
use Rattle.whitening.proofs.slopes.put_slopes.Goals as goal

pub returns : goal.returns
returns c = record {
  a_after = refl;
  b_after = refl;
  c_after = refl;
  d_after = refl;
}
