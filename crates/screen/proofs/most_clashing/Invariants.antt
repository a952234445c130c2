-- `screen::most_clashing` meets its contract. The invariant: `worst` is the choice among those below i, `most` its number (`Best`).
-- Assumes nothing.
use Prim.Native.Nat.{ℕ}
use lib.ListN.{get_or}
use Rattle.screen.proofs.Search.{Best}
use Rattle.screen.proofs.most_clashing.Given as goal

abbrev pub invariant-loop-i : goal.invariant-loop-i
invariant-loop-i l = Best (λ (j : ℕ). get_or l.counts j 0) l.i l.worst l.most
