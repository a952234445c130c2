-- `damped::small` meets its contract. `all` of the four is the definition's `&&` of each. Assumes nothing.
use borrow.Author.Rules.{rules}
use borrow.Author.Tests.{tests}
use mathlib.Core.Path.{◌≡◌, refl, sym, ap, ◌∙◌}
use mathlib.Core.Bool.{Bool, true, false, ◌&&◌}
use mathlib.Core.List.{List, [], ◌∷◌}
use native.Mathlib.Omega.{arith}
use lib.ListN.{length}
use lib.Ieee.{Float, lt}
use Rattle.std.specs.List.{list_all}
use Rattle.std.proofs.lemmas.Iterator.{YieldsList-from_slice}
use Rattle.std.proofs.lemmas.Iterator.Search.{all_from_yields_List}
use Rattle.binary64.specs.Steps.{#, abs}
use Rattle.damped.specs.Damped.{below, small}
use Rattle.damped.proofs.Constants.{tolerance-bits}
use Rattle.damped.proofs.small.Goals as goal

and-true : (a : Bool) → (a && true) ≡ a
and-true true = refl
and-true false = refl

four-below : (x : List Float) → length x ≡ 4 → list_all below x ≡ small x
unfolding small
four-below [] e = absurd (omega arith)
four-below (a ∷ []) e = absurd (omega arith)
four-below (a ∷ b ∷ []) e = absurd (omega arith)
four-below (a ∷ b ∷ c ∷ []) e = absurd (omega arith)
four-below (a ∷ b ∷ c ∷ d ∷ []) e = ap (λ (t : Bool). below a && (below b && (below c && t))) (and-true (below d))
four-below (a ∷ b ∷ c ∷ d ∷ f ∷ x) e = absurd (omega arith)

pub returns : goal.returns
returns c =
    let x = c.args.x in
    let e : length x ≡ 4 = search rules in
    let test : Float → Bool = λ v. lt (abs v) (# 0x3F1A36E2EB1C432D) in
    all_from_yields_List test _ _ _ c.all.ensures.ran (YieldsList-from_slice x cc) (λ v b q k. search (rules, tests))
    ∙ ap (λ (t : Float). list_all (λ v. lt (abs v) t) x) (sym tolerance-bits)
    ∙ four-below x e
