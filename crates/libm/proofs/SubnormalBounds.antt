-- The case of e_hypot.c where b is subnormal: both are scaled by 2 ^ 1022, and the words stay. One product may be negative then, by little beside the
-- others. Assumes nothing.
use Rattle.std.proofs.Common.{◌≡◌, ◌+◌, ◌^◌, ◌<◌, T, leb, [], ◌∷◌, sym, refl, subst, inl, inr, zero-le, mul-le-mul_left, arith, ltb→lt, leb→le}
use lib.Ieee.{Float, binary64, low, add, sub, mul, neg, le, lt, fits, of_bits}
use lib.Ieee.Positive.{above}
use Rattle.binary64.specs.Steps.{◌⊕◌, ◌⊖◌, ◌⊗◌, #, nought, one, abs}
use Rattle.binary64.specs.Root.{root}
use Rattle.binary64.proofs.Units.{Is, P, N}
use Rattle.binary64.proofs.Interval.{In, neg-in}
use Rattle.binary64.proofs.Runs.{lit, plus, minus, times, range, check, check_sound}
use Rattle.binary64.proofs.Order.{choice-in, abs_is}
use Rattle.binary64.proofs.Own.{no_minus, more-units}
use Rattle.binary64.proofs.RootBounds.{roots, root_in}
use Rattle.libm.specs.Words.{high, word}
use Rattle.libm.specs.Hypotenuse.{medium}
use Rattle.libm.proofs.HighWords.{word-is, word_in, word-plus}
use Rattle.libm.proofs.HighWords.{high-below, high-between, high-finite, zero-or-least}
use Rattle.libm.proofs.ScaledBounds.{times_above, scaled-over, two1022, two-1022}
use Rattle.libm.proofs.MediumBounds.{greatest, far, first-ok, first-in, second-ok, second-in, rest_in, square-in}
use Rattle.libm.proofs.ScaledBounds.{times_above, scaled-over, two1022, two-1022}

-- 2 ^ -52
abbrev least : Float
least = # 0x3CB0000000000000

two1022-is : Is binary64 two1022 × (N binary64 two1022 ≡ 0) × T (leb (2 ^ low binary64) (P binary64 two1022))
unfolding of_bits fits
two1022-is = ((tt, tt), refl, tt)

-- a value is no less than its own word after it has grown
grown-over : (x : Float) → Is binary64 x → T (le (word (high x)) (abs x ⊗ two1022))
grown-over x p =
    let f = high-finite x p in
    scaled-over x (word (high x)) two1022 p (word-is (high x) f) two1022-is.0 (word-plus (high x) f) two1022-is.1
    (mul-le-mul_left (P binary64 (word (high x))) (leb→le (2 ^ low binary64) (P binary64 two1022) two1022-is.2))

b-passes : T (check least one (lit two1022 ∷ times 1 0 ∷ []) (range (# 1) (word 0x100000) ∷ []))
unfolding of_bits mul le fits
b-passes = tt

a-passes : T (check nought (word 0x43d00000) (lit two1022 ∷ times 1 0 ∷ []) (range nought (word 0x3d00000) ∷ []))
unfolding of_bits mul le fits
a-passes = tt

some-passes : T (check least (word 0x43d00000) (lit two1022 ∷ times 1 0 ∷ []) (range (# 1) (word 0x3d00000) ∷ []))
unfolding of_bits mul le fits
some-passes = tt

-- what `medium` takes the root of: b < a - b; else a from 2 ^ -1074 on; and a = 0
first_passes : T (first-ok least nought (word 0x3d00000) least one nought (word 0x43d00000) nought (word 0x43d00000))
unfolding of_bits neg add sub mul le fits
first_passes = tt

second-passes : T (second-ok least nought (word 0x3e00000) nought (word 0x100000) (neg (word 0x43e00000 ⊗ word 0x43e00000)) nought nought one least
    (word 0x43e00000) least one)
unfolding of_bits neg add sub mul le fits
second-passes = tt

none_passes : T (second-ok least nought (word 0x3e00000) nought (word 0x100000) (neg one) (neg (least ⊗ least)) nought one
    (neg (word 0x3e00000)) nought least one)
unfolding of_bits neg add sub mul le fits
none_passes = tt

roots-pass : T (roots least far (least ⊗ least) greatest)
unfolding of_bits mul
roots-pass = tt

rooted : (x : Float) → In binary64 (least ⊗ least) greatest x → In binary64 least far (root x)
unfolding of_bits fits
rooted x i = root_in least far (least ⊗ least) greatest x (tt, tt) (tt, tt) roots-pass i

module _ (x y : Float) (p : Is binary64 x) (q : Is binary64 y) (l : high x < 0x3d00000) (m : high y < 0x100000) (some : T (le (# 1) (abs y))) where
  abbrev A : Float
  A = abs x ⊗ two1022

  abbrev B : Float
  B = abs y ⊗ two1022

  b-in : In binary64 least one B
  unfolding of_bits fits
  b-in =
      let i : In binary64 (# 1) (word 0x100000) (abs y) =
      record { lo-is = (tt, tt); hi-is = (tt, tt); is = abs_is y q; least = some; most = high-below y q 0x100000 (omega arith) m } in
      check_sound least one (lit two1022 ∷ times 1 0 ∷ []) (range (# 1) (word 0x100000) ∷ []) (abs y ∷ []) (i, tt) b-passes

  a_in : In binary64 nought (word 0x43d00000) A
  a_in = check_sound nought (word 0x43d00000) (lit two1022 ∷ times 1 0 ∷ []) (range nought (word 0x3d00000) ∷ []) (abs x ∷ [])
      (high-between x p 0 0x3d00000 (omega arith) zero-le l, tt) a-passes

  y2 : In binary64 nought one (B ⊖ word (high y))
  unfolding of_bits neg add sub le fits
  y2 = rest_in least one nought (word 0x100000) one B (word (high y)) b-in (word_in 0 (high y) 0x100000 zero-le (omega arith) (omega arith))
      (grown-over y q) tt

  first-case : In binary64 least far (root (word (high x) ⊗ word (high x) ⊖ (B ⊗ neg B ⊖ (A ⊖ word (high x)) ⊗ (A ⊕ word (high x)))))
  unfolding of_bits neg add sub le fits
  first-case =
      let t1 = word_in 0 (high x) 0x3d00000 zero-le (omega arith) (omega arith) in
      let t2 = rest_in nought (word 0x43d00000) nought (word 0x3d00000) (word 0x43d00000) A (word (high x)) a_in t1 (grown-over x p) tt in
      rooted _ (first-in least nought (word 0x3d00000) least one nought (word 0x43d00000) nought (word 0x43d00000) (word (high x)) B A
      (A ⊖ word (high x)) first_passes t1 b-in a_in t2)

  abbrev second : Float
  second = root (word (high x + 0x00100000) ⊗ word
      (high y) ⊖ ((A ⊖ B) ⊗ neg (A ⊖ B) ⊖ (word (high x + 0x00100000) ⊗ (B ⊖ word (high y)) ⊕ ((A ⊕ A) ⊖ word (high x + 0x00100000)) ⊗ B)))

  some-case : T (le (# 1) (abs x)) → In binary64 least far second
  unfolding of_bits neg add sub mul le fits
  some-case o =
      let i : In binary64 (# 1) (word 0x3d00000) (abs x) =
      record { lo-is = (tt, tt); hi-is = (tt, tt); is = abs_is x p; least = o; most = high-below x p 0x3d00000 (omega arith) l } in
      let a = check_sound least (word 0x43d00000) (lit two1022 ∷ times 1 0 ∷ []) (range (# 1) (word 0x3d00000) ∷ []) (abs x ∷ [])
      (i, tt) some-passes in
      let t1 = word_in 0 (high x + 0x00100000) 0x3e00000 zero-le (omega arith) (omega arith) in
      let y1 = word_in 0 (high y) 0x100000 zero-le (omega arith) (omega arith) in
      let w = check_sound (neg (word 0x43e00000)) (word 0x43e00000) (minus 0 1 ∷ []) (range least (word 0x43d00000) ∷ range least one ∷ [])
      (A ∷ B ∷ []) (a, (b-in, tt)) tt in
      let t2 = check_sound least (word 0x43e00000) (plus 0 0 ∷ minus 0 2 ∷ []) (range least (word 0x43d00000) ∷ range nought (word 0x3e00000) ∷ [])
      (A ∷ word (high x + 0x00100000) ∷ []) (a, (t1, tt)) tt in
      rooted _ (second-in least nought (word 0x3e00000) nought (word 0x100000) (neg (word 0x43e00000 ⊗ word 0x43e00000)) nought nought one least
      (word 0x43e00000) least one
      (word (high x + 0x00100000)) (word (high y)) ((A ⊖ B) ⊗ neg (A ⊖ B)) (B ⊖ word (high y))
      ((A ⊕ A) ⊖ word (high x + 0x00100000)) B second-passes t1 y1 (square-in (word 0x43e00000) (A ⊖ B) tt tt w) y2 t2 b-in)

  none-case : abs x ≡ nought → In binary64 least far second
  unfolding of_bits neg add sub mul le fits
  none-case e =
      let i : In binary64 nought nought (abs x) =
      subst (In binary64 nought nought) (sym e) (record { lo-is = (tt, tt); hi-is = (tt, tt); is = (tt, tt); least = tt; most = tt }) in
      let a = check_sound nought nought (lit two1022 ∷ times 1 0 ∷ []) (range nought nought ∷ []) (abs x ∷ []) (i, tt) tt in
      let t1 = word_in 0 (high x + 0x00100000) 0x3e00000 zero-le (omega arith) (omega arith) in
      let y1 = word_in 0 (high y) 0x100000 zero-le (omega arith) (omega arith) in
      let w = check_sound (neg one) (neg least) (minus 0 1 ∷ []) (range nought nought ∷ range least one ∷ []) (A ∷ B ∷ []) (a, (b-in, tt)) tt in
      let s = check_sound (neg one) (neg (least ⊗ least)) (times 0 1 ∷ [])
      (range (neg one) (neg least) ∷ range (neg (neg least)) (neg (neg one)) ∷ []) ((A ⊖ B) ∷ neg (A ⊖ B) ∷ [])
      (w, (neg-in binary64 (neg one) (neg least) (A ⊖ B) w, tt)) tt in
      let t2 = check_sound (neg (word 0x3e00000)) nought (plus 0 0 ∷ minus 0 2 ∷ []) (range nought nought ∷ range nought (word 0x3e00000) ∷ [])
      (A ∷ word (high x + 0x00100000) ∷ []) (a, (t1, tt)) tt in
      rooted _ (second-in least nought (word 0x3e00000) nought (word 0x100000) (neg one) (neg (least ⊗ least)) nought one
      (neg (word 0x3e00000)) nought least one
      (word (high x + 0x00100000)) (word (high y)) ((A ⊖ B) ⊗ neg (A ⊖ B)) (B ⊖ word (high y))
      ((A ⊕ A) ⊖ word (high x + 0x00100000)) B none_passes t1 y1 s y2 t2 b-in)

  pub subnormal : T (above (two-1022 ⊗ medium A B (high x) (high y)))
  unfolding of_bits medium fits
  subnormal =
      let m = medium A B (high x) (high y) in
      let r : In binary64 least far m =
      choice-in least far (lt B (A ⊖ B)) _ _ (λ _. first-case) (λ _. elim (zero-or-least x p) [ inl e ↦ none-case e | inr o ↦ some-case o ]) in
      times_above (# 1) two-1022 least m (tt, tt) (tt, tt) tt refl refl
      (no_minus m (more-units least m r.lo-is r.is r.least (ltb→lt 0 (P binary64 least) tt)).1) tt tt r.lo-is r.is r.least
