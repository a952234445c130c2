-- `find_fixes::decimals::next` meets its contract. Its tests are those of the definition. Assumes nothing.
use Rattle.std.proofs.Common.{le-ltb, lt-ltb, eq-eqb, ne_eqb, le-leb}
use borrow.Author.Tests.{lt-leb}
use Rattle.find_fixes.specs.Decimals.{most, next}
use Rattle.find_fixes.proofs.decimals.next.Goals as goal

pub returns-then-byte-eq46 : goal.returns-then-byte-eq46
unfolding next
returns-then-byte-eq46 c = rw (eq-eqb c.args.byte 46 c.if-byte-eq46.true) c.pointed.ensures

pub returns-then-byte-lt48 : goal.returns-then-byte-lt48
unfolding next
returns-then-byte-lt48 c = rw (
  ne_eqb c.args.byte 46 c.if-byte-eq46.false,
  lt-ltb c.args.byte
      48 c.if-byte-lt48.true,
)

pub returns-then-byte-gt57 : goal.returns-then-byte-gt57
unfolding next
returns-then-byte-gt57 c =
    rw (
      ne_eqb c.args.byte 46 c.if-byte-eq46.false,
      le-ltb
          c.args.byte 48 c.if-byte-lt48.false,
      lt-ltb 57 c.args.byte
          c.if-byte-gt57.true,
    )

pub returns-then-d-ge-MOST : goal.returns-then-d-ge-MOST
unfolding next
returns-then-d-ge-MOST c =
    rw (
      ne_eqb c.args.byte 46 c.if-byte-eq46.false,
      le-ltb c.args.byte 48 c.if-byte-lt48.false,
      le-ltb 57 c.args.byte c.if-byte-gt57.false,
      le-leb most c.args.d.whole c.if-d-ge-MOST.true,
    )

pub returns-then-d-ge-MOST-2 : goal.returns-then-d-ge-MOST-2
unfolding next
returns-then-d-ge-MOST-2 c =
    rw (
      ne_eqb c.args.byte 46
          c.if-byte-eq46.false,
      le-ltb c.args.byte 48
          c.if-byte-lt48.false,
      le-ltb 57 c.args.byte
          c.if-byte-gt57.false,
      lt-leb most c.args.d.whole c.if-d-ge-MOST.false,
      le-leb most c.args.d.scale c.if-d-ge-MOST-2.true,
    )

pub returns-then-d : goal.returns-then-d
unfolding next
returns-then-d c =
    rw (
      ne_eqb c.args.byte 46
          c.if-byte-eq46.false,
      le-ltb c.args.byte 48
          c.if-byte-lt48.false,
      le-ltb 57 c.args.byte
          c.if-byte-gt57.false,
      lt-leb most c.args.d.whole
          c.if-d-ge-MOST.false,
      lt-leb most c.args.d.scale
          c.if-d-ge-MOST-2.false,
      c.if-d.true,
    )

pub returns-else-d : goal.returns-else-d
unfolding next
returns-else-d c =
    rw (
      ne_eqb c.args.byte 46
          c.if-byte-eq46.false,
      le-ltb c.args.byte 48
          c.if-byte-lt48.false,
      le-ltb 57 c.args.byte
          c.if-byte-gt57.false,
      lt-leb most c.args.d.whole
          c.if-d-ge-MOST.false,
      lt-leb most c.args.d.scale c.if-d-ge-MOST-2.false,
      c.if-d.false,
    )
