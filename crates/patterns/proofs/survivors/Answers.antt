-- `patterns::survivors` meets its contract: the rows stand for the pattern, and `kept` of screen leaves what the definition
-- keeps. Assumes nothing.
use mathlib.Core.Path.{ap, ◌∙◌}
use mathlib.Core.Bool.{Bool}
use Prim.Native.Nat.{ℕ}
use native.Mathlib.Omega.{arith}
use Rattle.sets.specs.Sets.{Subset, count}
use Rattle.sets.proofs.Masks.{count-within}
use Rattle.patterns.specs.Patterns.{survivors}
use Rattle.patterns.proofs.survivors.Goals as goal

pub returns : goal.returns
unfolding survivors
returns c =
    let left = c.kept in
    let n = c.args.n in
    c.count.ensures ∙ count-within n left.result left.ensures.1 (omega arith)
    ∙ ap (λ (S : Subset). count S n) left.ensures.0 ∙ ap (λ (R : ℕ → ℕ → Bool). survivors n R) c.failing-rows.ensures
