-- `screen::kept` meets its contract: where no two fail all are kept, and elsewhere it gives one part of what the removals tell. Assumes nothing.
use mathlib.Core.Path.{◌∙◌}
use Rattle.sets.specs.Sets.{first}
use Rattle.screen.specs.Held.{pairs_of}
use Rattle.screen.specs.Meaning.{done}
use Rattle.screen.proofs.Removal.{only-kept-is-left}
use Rattle.screen.proofs.kept.Goals as goal

pub returns-then-clear : goal.returns-then-clear
returns-then-clear c =
    let s = c.args in
    let clear = c.clear.ensures c.if-clear.true in
    (c.first.ensures.0 ∙ (only-kept-is-left s.n (pairs_of s.rows.now) (first s.n)).0 (done clear), c.first.ensures.1)

pub returns : goal.returns
returns c = (c.removals.ensures.survivors, c.removals.ensures.within)
