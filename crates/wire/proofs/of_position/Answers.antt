-- `wire::of_position` meets its contract: the test decides, and what it passes is small enough for `nearest` (Limits). Assumes nothing.
use mathlib.Core.Path.{sym, ◌∙◌}
use lib.Dec.{lit<, lit≤}
use Rattle.wire.proofs.Words.{held}
use Rattle.wire.proofs.Arms.{whole, beyond}
use Rattle.wire.proofs.Limits.{Small, small, asked}
use Rattle.wire.proofs.of_position.Goals as goal

pub returns-then-not-writable : goal.returns-then-not-writable
returns-then-not-writable c = beyond _ c.writable.ensures c.if-not-writable.true

passed : (c : goal.Else-not-writable) → Small c.args.position
passed c = small _ (sym c.writable.ensures ∙ c.if-not-writable.false)

pub nearest-requires : goal.nearest-requires
nearest-requires c = asked 90 _ _ (passed c).lat (lit≤ tt) (lit< tt) (lit< tt)

pub nearest-requires-2 : goal.nearest-requires-2
nearest-requires-2 c = asked 180 _ _ (passed c.before).lon (lit≤ tt) (lit< tt) (lit< tt)

pub nearest-requires-3 : goal.nearest-requires-3
nearest-requires-3 c = asked 25000 _ _ (passed c.before.before).height (lit≤ tt) (lit< tt) (lit< tt)

pub returns : goal.returns
returns c =
    let p = passed c.before.before.before in
    whole _ c.writable.ensures c.if-not-writable.false
    (held c.nearest.ensures (asked 90 10000000 _ p.lat (lit≤ tt) (lit< tt) (lit< tt)).2)
    (held c.nearest-2.ensures (asked 180 10000000 _ p.lon (lit≤ tt) (lit< tt) (lit< tt)).2)
    (held c.nearest-3.ensures (asked 25000 1000 _ p.height (lit≤ tt) (lit< tt) (lit< tt)).2)
