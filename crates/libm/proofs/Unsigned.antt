-- Values whose sign is not set, which are their own magnitudes: a number above 0 is one, and what is one is not negative. Assumes nothing.
use Rattle.std.proofs.Common.{◌≡◌, ◌%◌, ◌^◌, true, false, not, T, sym, refl, ap, ◌∙◌, arith}
use mathlib.Core.Bool.{false≢true}
use borrow.Author.Tests.{lt-leb}
use lib.Ieee.{Float, nan, inf, fin, binary64, is_nan, lt, fits, of_bits, to_bits}
use lib.Ieee.Bits.{to_bits-of_bits}
use Rattle.binary64.specs.Steps.{#, nought, abs}
use Rattle.libm.specs.Words.{negative}
use Rattle.libm.proofs.Magnitudes.{magnitude}

pub above-unsigned : (x : Float) → lt nought x ≡ true → abs x ≡ x
unfolding abs lt of_bits
above-unsigned nan h = absurd (false≢true h)
above-unsigned (inf true) h = absurd (false≢true h)
above-unsigned (inf false) h = refl
above-unsigned (fin true m e) h = absurd (false≢true h)
above-unsigned (fin false m e) h = refl

-- the bits of a number are those of its magnitude, which are below 2 ^ 63
number-unsigned : (x : Float) → fits binary64 x ≡ true → T (not (is_nan x)) → abs x ≡ x → negative x ≡ false
unfolding negative
number-unsigned x f n h =
    let b = to_bits binary64 x in
    let own : # (b % 2 ^ 63) ≡ x = magnitude x f ∙ h in
    let same : b % 2 ^ 63 ≡ b =
    sym (to_bits-of_bits binary64 (b % 2 ^ 63) (omega arith) (rw own n)) ∙ ap (to_bits binary64) own in
    lt-leb (2 ^ 63) b (omega (arith, same))

pub not_negative : (x : Float) → fits binary64 x ≡ true → abs x ≡ x → negative x ≡ false
unfolding negative to_bits is_nan
not_negative nan f h = refl
not_negative (inf s) f h = number-unsigned (inf s) f tt h
not_negative (fin s m e) f h = number-unsigned (fin s m e) f tt h
