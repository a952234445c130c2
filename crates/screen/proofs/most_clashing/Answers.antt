-- `screen::most_clashing` meets its contract. The invariant: `worst` is the choice among those below i, `most` its number (`Best`).
-- Assumes nothing.
use mathlib.Core.Path.{◌≡◌, refl}
use Prim.Native.Nat.{ℕ}
use native.Mathlib.Omega.{arith}
use lib.ListN.{get_or}
use Rattle.screen.proofs.Search.{best-start, best_takes, best-leaves, best-end}
use Rattle.screen.proofs.most_clashing.Goals as goal
use Rattle.screen.proofs.most_clashing.Goals.{then-most-count, else-most-count}

pub loop-i-init : goal.loop-i-init
loop-i-init c = best-start (λ (j : ℕ). get_or c.args.counts.now j 0)

pub loop-i-preserved : goal.loop-i-preserved
loop-i-preserved c =
    let at = c.loop-i in
    let counts : ℕ → ℕ = λ j. get_or c.args.counts.now j 0 in
    elim c.if-most-count.branch [
      | then-most-count w ↦
          rw (w.worst-is, w.most-is) (best_takes counts at.i at.worst at.most (counts at.i) refl at.invariant w.if-most-count.true)
      | else-most-count w ↦
          rw (w.worst-is, w.most-is) (best-leaves counts at.i at.worst at.most (counts at.i) refl at.invariant w.if-most-count.false)
    ]

pub returns : goal.returns
returns c =
    let s = c.args in
    let at = c.loop-i in
    let e : at.i ≡ s.n = omega arith in
    best-end (λ (j : ℕ). get_or s.counts.now j 0) s.n at.most at.worst (rw e at at.invariant)
