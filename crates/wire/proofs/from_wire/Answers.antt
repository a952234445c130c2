-- `wire::from_wire` meets its contract: the test decides, and each coordinate is divided once, by a number with the bits of the definition's
-- (Limits).
-- Assumes nothing.
use mathlib.Core.Path.{◌≡◌}
use mir.Syntax.{w32}
use mir.Val.{to_z, of_z}
use mir.ValLaws.{to_z-of_z}
use Rattle.wire.specs.Wire.{back}
use Rattle.wire.proofs.Arms.{at, beyond-limits}
use Rattle.wire.proofs.Limits.{per-degree, per-metre}
use borrow.Author.Rules.{rules}
use Rattle.wire.proofs.from_wire.Goals as goal

pub returns-then-not-readable : goal.returns-then-not-readable
returns-then-not-readable c = beyond-limits _ c.readable.ensures c.if-not-readable.true

pub returns : goal.returns
unfolding back
returns c =
    let w = c.args.wire in
    let lat : to_z w32 (of_z w32 w.lat) ≡ w.lat = to_z-of_z w32 w.lat (record { sfits = search rules }) in
    let lon : to_z w32 (of_z w32 w.lon) ≡ w.lon = to_z-of_z w32 w.lon (record { sfits = search rules }) in
    let height : to_z w32 (of_z w32 w.height) ≡ w.height = to_z-of_z w32 w.height (record { sfits = search rules }) in
    at w c.readable.ensures c.if-not-readable.false (rw (per-degree, lat)) (rw (per-degree, lon)) (rw (per-metre, height))
