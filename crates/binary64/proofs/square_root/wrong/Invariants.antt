-- `binary64::square_root::wrong` meets its contract. The invariant: where nothing bad was found, the entries below i are roots. The measure is what
-- is left of k. Assumes nothing.
use mathlib.Core.Path.{◌≡◌}
use mathlib.Core.List.{List}
use Prim.Native.Nat.{ℕ, ◌-◌, ◌≤◌, ◌<◌}
use lib.ListN.{get_or}
use lib.Ieee.{Float, nan}
use Rattle.binary64.specs.Root.{root}
use Rattle.binary64.proofs.square_root.wrong.Given as goal

-- the entries of out below i are the roots of those of d
abbrev pub Roots : List Float → List Float → ℕ → Type 0
Roots d out i = (j : ℕ) → j < i → get_or out j nan ≡ root (get_or d j nan)

abbrev pub invariant-loop-i : goal.invariant-loop-i
invariant-loop-i l = (l.i ≤ l.k) × (l.bad ≡ 0 → Roots l.d l.out l.i)

abbrev pub decreases-loop-i : goal.decreases-loop-i
decreases-loop-i l = l.k - l.i
