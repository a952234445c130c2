-- The included receptions are at most 32, and their indices below n. Assumes nothing.
use Rattle.std.proofs.Common.{◌≡◌, ℕ, ◌<◌, ◌≤◌, List, replicate, sym, subst, arith}
use lib.Ieee.{Float}
use Rattle.sets.specs.Sets.{Subset, count}
use Rattle.sets.proofs.Counting.{count-le}
use Rattle.sets.proofs.Listed.{lists}
use Rattle.problem.specs.Gathered.{pick}
use Rattle.best.specs.OfProblem.{subset}
use Rattle.rounds.specs.declared.fitting.Gathered.{Gathered}
use Rattle.rounds.specs.Held.{gathered}

pub few : (S : Subset) (n : ℕ) → n ≤ 32 → count S n ≤ 32
few S n l = omega (arith, count-le S n)

pub picks : (S : Subset) (n : ℕ) → n ≤ 32 → (a : ℕ) → a < count S n → pick (subset n S) a < n
picks S n l a h = (lists S (replicate 32 0) n a l h).below

pub subset-fits : (site z : List Float) (n : ℕ) (S : Subset) (g : Gathered) → g ≡ gathered site z n S → n ≤ 32 → (g.k ≤ 32)
    × ((a : ℕ) → a < g.k → pick g.index a < n)
subset-fits site z n S g e l = subst (λ (x : Gathered). (x.k ≤ 32) × ((a : ℕ) → a < x.k → pick x.index a < n)) (sym e) (few S n l, picks S n l)
