-- `libm::atan::quotient` meets its contract: each return is one case of the definition. A high word is below 2^31, so the sums fit, and either half
-- of the second test may fail. A quotient above 0 is its own magnitude (`above-unsigned`). Assumes nothing.
use Rattle.std.proofs.Common.{◌≡◌, ◌+◌, ◌*◌, ◌^◌, false, ◌&&◌, ltb, arith, le-leb, lt-ltb, le-ltb}
use borrow.Author.Tests.{lt-leb}
use Rattle.binary64.proofs.Order.{abs-abs}
use Rattle.libm.specs.Words.{high}
use Rattle.libm.specs.Atan.{quotient}
use Rattle.libm.proofs.Unsigned.{above-unsigned}
use Rattle.libm.proofs.atan.quotient.Goals.{else-negative-via-then-negative+else-iy-ix-2, else-negative-via-else-negative}
use Rattle.libm.proofs.atan.quotient.Goals as goal

pub overflow_add-ix : goal.overflow_add-ix
unfolding high
overflow_add-ix c = omega arith

pub returns-then-iy-ix : goal.returns-then-iy-ix
unfolding quotient
returns-then-iy-ix c = rw (← c.high-iy.ensures, ← c.high-ix.ensures, le-leb (_ + 61 * 2 ^ 20) _ c.if-iy-ix.true)

pub overflow_add-iy : goal.overflow_add-iy
unfolding high
overflow_add-iy c = omega arith

pub returns-then-iy-ix-2 : goal.returns-then-iy-ix-2
unfolding quotient
returns-then-iy-ix-2 c =
    rw (← c.high-iy.ensures, ← c.high-ix.ensures, lt-leb (_ + 61 * 2 ^ 20) _ c.if-iy-ix.false)
    (rw (← c.negative.ensures, c.if-negative.true, lt-ltb _ _ c.if-iy-ix-2.true))

pub atan_unsigned-requires : goal.atan_unsigned-requires
atan_unsigned-requires c = above-unsigned _ c.if-q.true

pub returns-then-q : goal.returns-then-q
unfolding quotient
returns-then-q c =
    let off : (c.negative.result && ltb (c.high-iy.result + 60 * 2 ^ 20) c.high-ix.result) ≡ false =
    elim c.else-negative.branch [
      | else-negative-via-then-negative+else-iy-ix-2 w ↦ rw (w.if-negative.true, le-ltb _ _ w.if-iy-ix-2.false)
      | else-negative-via-else-negative w ↦ rw w.if-negative.false
    ] in
    rw (
      ← c.high-iy.ensures,
      ← c.high-ix.ensures,
      lt-leb (_ + 61 * 2 ^ 20) _ c.if-iy-ix.false,
      ← c.negative.ensures,
    )
    (rw (off, above-unsigned _ c.if-q.true, ← c.atan_unsigned.ensures))

pub atan_unsigned-requires-2 : goal.atan_unsigned-requires-2
atan_unsigned-requires-2 c = rw c.abs.ensures (abs-abs _)

pub returns : goal.returns
unfolding quotient
returns c =
    let off : (c.negative.result && ltb (c.high-iy.result + 60 * 2 ^ 20) c.high-ix.result) ≡ false =
    elim c.else-negative.branch [
      | else-negative-via-then-negative+else-iy-ix-2 w ↦ rw (w.if-negative.true, le-ltb _ _ w.if-iy-ix-2.false)
      | else-negative-via-else-negative w ↦ rw w.if-negative.false
    ] in
    rw (
      ← c.high-iy.ensures,
      ← c.high-ix.ensures,
      lt-leb (_ + 61 * 2 ^ 20) _ c.if-iy-ix.false,
      ← c.negative.ensures,
    )
    (rw (off, ← c.abs.ensures, ← c.atan_unsigned-2.ensures))
