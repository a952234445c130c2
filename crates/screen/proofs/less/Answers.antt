-- `screen::less` meets its contract: what is taken off is the bit of w (`bit_is`). Assumes nothing.
use mathlib.Core.Path.{ap}
use Prim.Native.Nat.{ℕ, ◌-◌}
use Rattle.screen.proofs.Numbers.{bit_is}
use Rattle.screen.proofs.less.Goals as goal

pub returns : goal.returns
returns c = let s = c.args in ap (λ (x : ℕ). s.count - x) (bit_is s.row s.w)
