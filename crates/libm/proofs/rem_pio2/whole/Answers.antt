-- `libm::rem_pio2::whole` meets its contract: the two tests are what the truncation asks for, and beyond them the cast stops at the ends of its range
-- (`cast-most`, `cast-least`). Assumes nothing.
use Rattle.std.proofs.Common.{T, sym, subst}
use lib.Ieee.{neg, of_bits}
use Rattle.libm.proofs.Cast.{cast-most, cast-least}
use Rattle.libm.proofs.rem_pio2.whole.Goals as goal

pub truncating_f64_to_u64-requires : goal.truncating_f64_to_u64-requires
unfolding of_bits neg
truncating_f64_to_u64-requires c = record {
  lower_bound = subst T (sym c.if-q.true) tt;
  upper_bound = subst T (sym c.if-q-2.true) tt;
}

pub returns-then-q-2 : goal.returns-then-q-2
returns-then-q-2 c = c.truncating_f64_to_u64.ensures

pub returns-then-q : goal.returns-then-q
unfolding of_bits neg
returns-then-q c = cast-most _ c.if-q.true c.if-q-2.false

pub returns : goal.returns
unfolding of_bits neg
returns c = cast-least _ c.if-q.false
