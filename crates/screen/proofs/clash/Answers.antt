-- `screen::clash` meets its contract: the distances are the definition's, and the pair passes where its baseline is at least the least that passes
-- (`clash-is`). Assumes nothing.
use Rattle.screen.proofs.Reach.{clash-is}
use Rattle.screen.proofs.clash.Goals as goal

pub returns : goal.returns
returns c =
    let s = c.args in
    clash-is s.times.now s.sites.now s.i s.j c.least_baseline-least.result
    c.apart.ensures c.apart-x.ensures c.apart-y.ensures c.apart-z.ensures c.least_baseline-least.ensures.0 c.reaches.ensures
