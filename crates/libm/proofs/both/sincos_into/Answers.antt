-- `libm::both::sincos_into` meets its contract: each return is one case of `sin` beside the same case of `cos`, of which the second is
-- that of n = 1 (`quarter`), and 0 / 0 is not-a-number (`zero_by_zero`). Assumes nothing.
use Rattle.std.proofs.Common.{◌∙◌, le-leb}
use borrow.Author.Tests.{lt-leb}
use Rattle.libm.specs.Trig.{sin, cos, quadrant}
use Rattle.binary64.proofs.Patterns.{zero_by_zero}
use Rattle.libm.proofs.Limit.{by-limit}
use Rattle.libm.proofs.Quarter.{quarter}
use Rattle.libm.proofs.both.sincos_into.Goals as goal

pub returns-then-ix-le1072243195 : goal.returns-then-ix-le1072243195
unfolding sin cos
returns-then-ix-le1072243195 c = rw (
  ← c.high-ix.ensures,
  le-leb _ _ c.if-ix-le1072243195.true,
  ← c.k_sin-s.ensures,
  ← c.k_cos-c.ensures,
)

pub returns-then-ix-ne1073291771 : goal.returns-then-ix-ne1073291771
returns-then-ix-ne1073291771 c =
    let e = c.high-ix.ensures in
    let q = quarter _ c.well_formed.0.1 c.if-x.true (rw (← e) c.if-ix-le1072243195.false)
    (rw (← e) c.if-ix-lt1073928572.true)
    (λ h. c.if-ix-ne1073291771.true (e ∙ h)) in
    rw (q.0, q.1) (rw (← c.split-y.ensures, ← c.k_cos-s.ensures, ← c.k_sin-c.ensures))

pub returns-then-t : goal.returns-then-t
unfolding sin cos quadrant
returns-then-t c =
    rw (← c.high-ix.ensures, lt-leb _ _ c.if-ix-le1072243195.false, ← c.abs-t.ensures)
    (rw (
      by-limit _ _ c.if-t.true,
      ← c.rem_pio2-y.ensures,
      ← c.k_sin-s-then-t.ensures,
      ← c.k_cos-c-then-t.ensures,
    )
    (rw (← c.switch.ensures, ← c.signed-sine.ensures, c.switch-cosine.ensures)))

pub returns : goal.returns
unfolding sin cos
returns c =
    rw (
      ← c.high-ix.ensures,
      lt-leb _ _ c.if-ix-le1072243195.false,
      ← c.abs-t.ensures,
      by-limit _ _ c.if-t.false,
      zero_by_zero,
    )
