-- `whitening::sums::completed` meets its contract. The promises of `slopes` and `normal`, put together (`slopes-beside`). The
-- arrays keep their room (`slopes-room`). Assumes nothing.
use mathlib.Core.List.{List, []}
use lib.Ieee.{Float}
use Rattle.whitening.specs.Whitened.{Chosen, rows, no_rows}
use Rattle.whitening.specs.Held.{chosen}
use Rattle.whitening.proofs.Joined.{slopes-beside}
use Rattle.whitening.proofs.Over.{slopes-room}
use Rattle.whitening.proofs.sums.completed.Goals as goal

pub slopes-count-requires : goal.slopes-count-requires
slopes-count-requires c = c.requires.k_bound

pub returns : goal.returns
returns c =
    let P : List Float → Chosen = λ z. chosen c.args.k c.args.sites.now z c.args.l.now c.args.altitude in
    let r = c.args.r.now in
    let a = c.args.a.now in
    let b = c.args.b.now in
    let c₀ = c.args.c.now in
    let d = c.args.d.now in
    let found = c.slopes-count.ensures.d_after in record {
      value = λ z. slopes-beside (P z) c.args.p c.requires.k_bound.0 _ _ r a b c₀ d c.requires.slopes c.normal.ensures (found z r);
      slopes_2 = slopes-room (P []) c.args.p (rows c.args.k no_rows a b c₀ d) c.requires.k_bound.0 c.requires.slopes (found [] r);
    }
