-- `screen::lessen` meets its contract. The invariant: one is taken off each below i that fails with w (`Fewer`). Assumes nothing.
use mathlib.Core.Path.{◌≡◌}
use Prim.Native.Nat.{ℕ}
use lib.ListN.{length}
use Rattle.screen.specs.Held.{pairs_of}
use Rattle.screen.proofs.Numbers.{Fewer}
use Rattle.screen.proofs.lessen.Given as goal

abbrev pub invariant-loop-i : goal.invariant-loop-i
invariant-loop-i l = (length l.counts ≡ 32) × Fewer (λ (j : ℕ). pairs_of l.rows j l.w) l.initial.counts l.counts l.i
