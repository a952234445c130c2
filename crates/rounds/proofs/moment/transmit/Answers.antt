-- `rounds::moment::transmit` meets its contract. A whole number of binary64 within the tests is cast exactly; past them, as for an infinity, the sum
-- leaves i64 whatever the reference. Assumes nothing.
use Rattle.std.proofs.Common.{T, pos, ◌+ℤ◌, neg_ℤ, sym, subst, w64}
use lib.Ieee.{of_bits, neg, to_unsigned}
use mir.ValLaws.{to_z-of_z}
use Rattle.std.specs.Prelude as std
use Rattle.rounds.proofs.Moments.{checked, held-as, cast-nan, cast-up, cast-high, turned, cast-down, cast-low, far-later, far-earlier, by-cast}
use Rattle.rounds.proofs.moment.transmit.Goals as goal

pub returns-then-ps : goal.returns-then-ps
returns-then-ps c =
    rw (to_z-of_z w64 c.args.reference c.ranges.reference) (by-cast c.args.reference (pos 0) c.args.t c.round-ps.result
    (std.Some c.args.reference) c.round-ps.ensures (cast-nan c.round-ps.result c.if-ps.true)
    (held-as c.args.reference c.ranges.reference))

pub truncating_f64_to_u64-requires : goal.truncating_f64_to_u64-requires
unfolding of_bits neg
truncating_f64_to_u64-requires c = record {
  lower_bound = subst T (sym c.if-ps-2.true) tt;
  upper_bound = subst T (sym c.if-ps-3.true) tt;
}

pub returns-then-ps-3 : goal.returns-then-ps-3
unfolding of_bits neg
returns-then-ps-3 c =
    let r = c.round-ps.result in
    let cast = c.truncating_f64_to_u64.ensures in
    by-cast c.args.reference (pos (to_unsigned 64 r)) c.args.t r c.checked_add_unsigned.result
    c.round-ps.ensures
    (cast-up r c.if-ps-2.true c.if-ps-3.true)
    (checked (c.args.reference +ℤ pos (to_unsigned 64 r)) c.checked_add_unsigned.result
    (rw (to_z-of_z w64 c.args.reference c.ranges.reference, cast) at c.checked_add_unsigned.ensures))

pub returns-then-ps-2 : goal.returns-then-ps-2
unfolding of_bits neg
returns-then-ps-2 c =
    let r = c.round-ps.result in
    let far = cast-high r c.if-ps-2.true c.if-ps-3.false in
    by-cast c.args.reference (pos far.0) c.args.t r std.None c.round-ps.ensures
    far.1 (far-later c.args.reference far.0 c.ranges.reference.sfits far.2)

pub truncating_f64_to_u64-requires-then-back : goal.truncating_f64_to_u64-requires-then-back
unfolding of_bits neg
truncating_f64_to_u64-requires-then-back c = record {
  lower_bound = turned _ c.if-ps.false c.if-ps-2.false;
  upper_bound = subst T (sym c.if-back.true) tt;
}

pub returns-then-back : goal.returns-then-back
unfolding of_bits neg
returns-then-back c =
    let r = c.round-ps.result in
    let cast = c.truncating_f64_to_u64-then-back.ensures in
    by-cast c.args.reference (neg_ℤ (pos (to_unsigned 64 (neg r)))) c.args.t r c.checked_sub_unsigned.result
    c.round-ps.ensures
    (cast-down r c.if-ps.false c.if-ps-2.false c.if-back.true)
    (checked (c.args.reference +ℤ neg_ℤ (pos (to_unsigned 64 (neg r)))) c.checked_sub_unsigned.result
    (rw (to_z-of_z w64 c.args.reference c.ranges.reference, cast) at c.checked_sub_unsigned.ensures))

pub returns : goal.returns
unfolding of_bits neg
returns c =
    let r = c.round-ps.result in
    let far = cast-low r c.if-ps.false c.if-ps-2.false c.if-back.false in
    by-cast c.args.reference (neg_ℤ (pos far.0)) c.args.t r std.None c.round-ps.ensures
    far.1 (far-earlier c.args.reference far.0 c.ranges.reference.sfits far.2)
