-- `best::rivalled` meets its contract. `any` over the indices is the definition's (`any-is`). Assumes nothing.
use borrow.Author.Rules.{rules}
use borrow.Author.Tests.{tests}
use mathlib.Core.Path.{refl, sym, ap, ap₂, fun_ext, ◌∙◌}
use mathlib.Core.Bool.{Bool, not, ◌&&◌}
use Prim.Native.Nat.{ℕ}
use native.Mathlib.Omega.{arith}
use lib.Dec.{ltb}
use lib.ListN.{length}
use lib.Ieee.{Float, lt}
use Rattle.std.proofs.lemmas.Iterator.{YieldsList-from_range}
use Rattle.std.proofs.lemmas.Iterator.Search.{any_from_yields_List}
use Rattle.binary64.specs.Steps.{◌⊕◌, decimal}
use Rattle.sets.specs.Sets.{Subset, count}
use Rattle.sets.specs.Mask.{has}
use Rattle.damped.specs.declared.Fit.{Fit}
use Rattle.best.specs.Best.{distance}
use Rattle.best.specs.Held.{placed_at}
use Rattle.best.proofs.Passes.{fit-at}
use Rattle.best.proofs.Ranges.{any-is}
use Rattle.best.proofs.rivalled.Goals as goal

pub returns : goal.returns
returns c =
    let s = c.args in
    let fits = s.fits.now in
    let told : Fit → Float → Bool = λ other limit. not (lt (s.best.cost ⊕ decimal 9 0) other.cost) && lt limit (distance s.best other) in
    let p : ℕ → Bool = λ i. has s.mask i && told (placed_at fits i).fit c.chi2_limit-limit.result in
    any_from_yields_List p _ _ _ c.any.ensures.ran (YieldsList-from_range 0 (length fits) (length fits) refl (omega arith))
    (λ x b q k. search (rules, tests))
    ∙ any-is p (length fits)
    ∙ ap (λ (S : Subset). ltb 0 (count S (length fits)))
    (fun_ext (λ (i : ℕ). ap₂ (λ (f : Fit) (limit : Float). has s.mask i && told f limit) (sym (fit-at fits i)) c.chi2_limit-limit.ensures))
