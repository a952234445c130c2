-- `best::converged` meets its contract. `any` over the fits is that over their indices (`any-listed`). Assumes nothing.
use borrow.Author.Rules.{rules}
use borrow.Author.Tests.{tests}
use mathlib.Core.Path.{sym, ap, ap₂, ◌∙◌, fun_ext}
use mathlib.Core.Bool.{Bool}
use mathlib.Core.List.{[]}
use Prim.Native.Nat.{ℕ}
use lib.Dec.{ltb}
use lib.ListN.{length-map}
use Rattle.std.proofs.lemmas.Iterator.{YieldsList-from_slice}
use Rattle.std.proofs.lemmas.Iterator.Search.{any_from_yields_List}
use Rattle.sets.specs.Sets.{Subset, count}
use Rattle.damped.specs.declared.Fit.{Fit}
use Rattle.damped.specs.declared.Placed.{Placed}
use Rattle.best.specs.Held.{placed_at}
use Rattle.best.proofs.Passes.{fit-at}
use Rattle.best.proofs.Ranges.{any-listed}
use Rattle.best.proofs.converged.Goals as goal

pub returns : goal.returns
returns c =
    let fits = c.args.fits.now in
    let test : Placed → Bool = λ at. at.fit.ok in
    any_from_yields_List test _ _ _ c.any.ensures.ran (YieldsList-from_slice fits cc) (λ x b q k. search (rules, tests))
    ∙ any-listed test fits (placed_at [] 0)
    ∙ ap₂ (λ (S : Subset) (n : ℕ). ltb 0 (count S n)) (fun_ext (λ (i : ℕ). sym (ap (λ (f : Fit). f.ok) (fit-at fits i))))
    (sym (length-map fits (λ (x : Placed). x.fit)))
