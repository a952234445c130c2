-- `near::all_readable` meets its contract: the places are tested one by one (`readable-each`). Assumes nothing.
use Rattle.std.proofs.Common.{rules, ◌∙◌, refl, arith}
use borrow.Author.Tests.{tests}
use Rattle.std.proofs.lemmas.Iterator.{YieldsList-from_range}
use Rattle.std.proofs.lemmas.Iterator.Search.{all_from_yields_List}
use Rattle.near.specs.Near.{readable}
use Rattle.near.proofs.Records.{readable-each}
use Rattle.near.proofs.all_readable.Goals as goal

pub returns : goal.returns
returns c =
    let file = c.args.file.now in
    all_from_yields_List (readable file) _ _ c.all.result c.all.ensures.ran (YieldsList-from_range 0 c.args.n c.args.n refl (omega arith))
    (λ x b q k. search (rules, tests))
    ∙ readable-each file c.args.n
