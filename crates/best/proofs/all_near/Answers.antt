-- `best::all_near` meets its contract. `all` over the indices is the definition's recursion. Assumes nothing.
use borrow.Author.Rules.{rules}
use borrow.Author.Tests.{tests}
use mathlib.Core.Path.{◌≡◌, refl, ap, ◌∙◌}
use mathlib.Core.Bool.{Bool, ◌&&◌}
use mathlib.Core.List.{List}
use Prim.Native.Nat.{ℕ, zero, suc}
use native.Mathlib.Omega.{arith}
use lib.Ieee.{Float, le}
use Rattle.std.specs.List.{list_all, range_with_len}
use Rattle.std.proofs.lemmas.Iterator.{YieldsList-from_range}
use Rattle.std.proofs.lemmas.Iterator.Search.{all_from_yields_List}
use Rattle.problem.specs.Problem.{range}
use Rattle.best.specs.Plausible.{max_range_m, near_to}
use Rattle.best.proofs.Ranges.{all-next}
use Rattle.best.proofs.all_near.Goals as goal

abbrev within : List Float → List Float → ℕ → Bool
within sites x i = le (range sites x i) max_range_m

near-is : (sites x : List Float) (k : ℕ) → list_all (within sites x) (range_with_len 0 k) ≡ near_to sites x k
unfolding near_to
near-is sites x zero = refl
near-is sites x (suc k) = all-next (within sites x) k ∙ ap (λ (b : Bool). b && within sites x k) (near-is sites x k)

pub returns : goal.returns
returns c =
    let s = c.args in
    all_from_yields_List (within s.sites.now s.x) _ _ _ c.all.ensures.ran (YieldsList-from_range 0 s.k s.k refl (omega arith))
    (λ x b q k. search (rules, tests))
    ∙ near-is s.sites.now s.x s.k
