-- An angle above pi/4 and below 3 pi/4, not near pi/2: n is 1, so that the sine is the cosine of the rest, and the cosine the sine of it, turned.
-- Assumes nothing.
use Rattle.std.proofs.Common.{◌≡◌, ◌%◌, ◌^◌, ◌<◌, true, sym, ap, ◌∙◌, arith, lt-ltb}
use borrow.Author.Tests.{lt-leb, ne_eqb}
use lib.Ieee.{Float, binary64, neg, le, lt, fits, of_bits, to_bits}
use lib.Ieee.Bits.{is_true}
use Rattle.binary64.specs.Steps.{◌⊖◌, nought, abs, is_finite}
use Rattle.binary64.proofs.Patterns.{back}
use Rattle.binary64.proofs.Fields.{finite-bits}
use Rattle.binary64.proofs.Units.{Is, le-trans-is}
use Rattle.binary64.proofs.Order.{holds, abs_is, is-finite}
use Rattle.libm.specs.Words.{high, word, signed, switch}
use Rattle.libm.specs.Kernels.{k_sin, k_cos}
use Rattle.libm.specs.RemPio2.{pio2, pio2t, split, rem_pio2}
use Rattle.libm.specs.Trig.{limit, quadrant, sin, cos}
use Rattle.libm.specs.declared.rem_pio2.Reduced.{Reduced}
use Rattle.libm.proofs.Unsigned.{above-unsigned, not_negative}
use Rattle.libm.proofs.HighWords.{high-below}

-- a high word below an infinity's
high_is : (x : Float) → fits binary64 x ≡ true → high x < 0x7ff00000 → Is binary64 x
unfolding high
high_is x f h =
    let b = to_bits binary64 x in
    let below : is_finite x ≡ true =
    ap is_finite (sym (back x f)) ∙ sym (finite-bits b) ∙ lt-ltb (b % 2 ^ 63) 0x7ff0000000000000 (omega arith) in
    (holds (fits binary64 x) f, is-finite x below)

-- 3 pi/4 is below 7
to-limit : (x : Float) → fits binary64 x ≡ true → high x < 0x4002d97c → le (abs x) limit ≡ true
unfolding of_bits le fits
to-limit x f h =
    let p = high_is x f (omega arith) in
    is_true (le (abs x) limit)
    (le-trans-is binary64 (abs x) (word 0x4002d97c) limit (abs_is x p) (tt, tt) (tt, tt) (high-below x p 0x4002d97c (omega arith) h) tt)

module _ (x : Float) (f : fits binary64 x ≡ true) (above : lt nought x ≡ true) (past : 0x3fe921fb < high x) (below : high x < 0x4002d97c)
    (apart : high x ≡ 0x3ff921fb → ⊥) where
  own : abs x ≡ x
  own = above-unsigned x above

  bound : le (abs x) limit ≡ true
  bound = to-limit x f below

  abbrev rest : Reduced
  rest = split 1 (x ⊖ pio2 1) (pio2t 1)

  sine : sin x ≡ k_cos rest.y0 rest.y1
  unfolding sin signed quadrant rem_pio2 split switch
  sine = rw (lt-leb (high x) 0x3fe921fb past, bound, not_negative x f own) (rw (own, lt-ltb (high x) 0x4002d97c below, ne_eqb (high x) 0x3ff921fb apart))

  cosine : cos x ≡ neg (k_sin rest.y0 rest.y1 1)
  unfolding cos quadrant rem_pio2 split switch
  cosine = rw (lt-leb (high x) 0x3fe921fb past, bound) (rw (own, lt-ltb (high x) 0x4002d97c below, ne_eqb (high x) 0x3ff921fb apart))

  pub quarter : (sin x ≡ k_cos rest.y0 rest.y1) × (cos x ≡ neg (k_sin rest.y0 rest.y1 1))
  quarter = (sine, cosine)
