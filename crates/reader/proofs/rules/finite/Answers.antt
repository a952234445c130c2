-- `reader::rules::finite` meets its contract. The numbers are tested one by one (`finite-each`). Assumes nothing.
use Rattle.std.proofs.Common.{rules, ◌∙◌, refl, arith, ◌+◌, ◌*◌}
use borrow.Author.Tests.{tests}
use Rattle.std.proofs.lemmas.Iterator.{YieldsList-from_range}
use Rattle.std.proofs.lemmas.Iterator.Search.{all_from_yields_List}
use Rattle.binary64.specs.Steps.{is_finite}
use Rattle.words.specs.Words.{f64_at}
use Rattle.reader.proofs.Tests.{finite-each}
use Rattle.reader.proofs.rules.finite.Goals as goal

pub returns : goal.returns
unfolding f64_at
returns c =
    let s = c.args.s.now in
    let k = c.args.k in
    all_from_yields_List (λ i. is_finite (f64_at s (k + 8 * i))) _ _ c.all.result c.all.ensures.ran
    (YieldsList-from_range 0 c.args.count c.args.count refl (omega arith)) (λ x b q k. search (rules, tests))
    ∙ finite-each s k c.args.count
