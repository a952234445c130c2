-- `entry::turned_away` meets its contract: n is written up to 32, and above 32 no record shows it (`bare-reply`). Assumes nothing.
use Rattle.entry.proofs.Replies.{away-reply, bare-reply}
use Rattle.entry.proofs.turned_away.Goals as goal

pub returns-then-n-le-MOST : goal.returns-then-n-le-MOST
returns-then-n-le-MOST c = away-reply c.refused.result c.args.fault c.number-number.result
    c.detail-detail.result c.args.n c.number-number.ensures
    c.detail-detail.ensures c.refused.ensures

pub returns : goal.returns
returns c = bare-reply c.refused-2.result c.args.fault c.number-number.result
    c.detail-detail.result c.args.n c.number-number.ensures
    c.detail-detail.ensures (c.requires c.if-n-le-MOST.false) c.refused-2.ensures
