-- `binary64::square_root::guesses` meets its contract. The invariant: the array keeps its length, and its entries from k on. The measure is what is
-- left of k. Assumes nothing.
use mathlib.Core.Path.{◌≡◌}
use Prim.Native.Nat.{ℕ, ◌-◌, ◌≤◌}
use lib.ListN.{length, get_or}
use lib.Ieee.{nan}
use Rattle.binary64.proofs.square_root.guesses.Given as goal

abbrev pub invariant-loop-i : goal.invariant-loop-i
invariant-loop-i l = (l.i ≤ l.k) × (length l.out ≡ length l.initial.out) × ((j : ℕ) → l.k ≤ j → get_or l.out j nan ≡ get_or l.initial.out j nan)

abbrev pub decreases-loop-i : goal.decreases-loop-i
decreases-loop-i l = l.k - l.i
