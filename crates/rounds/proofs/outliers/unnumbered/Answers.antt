-- `rounds::outliers::unnumbered` meets its contract. `any` over the indices is the definition's (`any-is`). Assumes nothing.
use borrow.Author.Tests.{tests}
use Rattle.std.proofs.Common.{ℕ, Bool, refl, ◌∙◌, arith, rules}
use Rattle.std.proofs.lemmas.Iterator.{YieldsList-from_range}
use Rattle.std.proofs.lemmas.Iterator.Search.{any_from_yields_List}
use Rattle.dense.specs.Entries.{nth}
use Rattle.sets.specs.Mask.{has}
use Rattle.best.proofs.Ranges.{any-is}
use Rattle.rounds.specs.Rounds.{no_number}
use Rattle.rounds.proofs.outliers.unnumbered.Goals as goal

pub returns : goal.returns
returns c =
    let n = c.args.n in
    let p : ℕ → Bool = no_number (has c.args.kept) (nth c.args.z.now) in
    any_from_yields_List p _ _ _ c.any.ensures.ran (YieldsList-from_range 0 n n refl (omega arith)) (λ x b q k. search (rules, tests))
    ∙ any-is p n
