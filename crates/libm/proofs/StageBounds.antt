-- The stages of the reduction: the rest r stays within ±0.7862 and what is still to be taken off, w, within ±3e-10; so the reduced angle lies within
-- ±0.8 and its tail within ±1e-9. An interval alone loses r - (r - w), which is near w (`tail-in`). Assumes nothing.
use Rattle.std.proofs.Common.{◌≡◌, ℕ, ◌+◌, ◌^◌, ◌<◌, ◌≤◌, Bool, ◌&&◌, T, ltb, [], ◌∷◌, refl, arith, ltb→lt, leb→le}
use lib.Ieee.{Float, binary64, low, round, add, sub, mul, neg, le, fits, of_bits}
use lib.Ieee.Fits.{and_l, and_r}
use lib.Ieee.Scale.{finite}
use Rattle.binary64.specs.Steps.{◌⊕◌, ◌⊖◌, ◌⊗◌, #, decimal, one}
use Rattle.binary64.proofs.Units.{Is, P, N, le→units}
use Rattle.binary64.proofs.Interval.{In}
use Rattle.binary64.proofs.Runs.{lit, minus, times, range, check, check_sound}
use Rattle.binary64.proofs.Tail.{tail-in, slack}
use Rattle.libm.specs.RemPio2.{pio2, pio2t, split, stage}
use Rattle.libm.specs.declared.rem_pio2.Reduced.{Reduced}
use Rattle.libm.proofs.KernelBounds.{wide, bit, Wide-in, Bit-in}

-- within ±c
abbrev pub About : Float → Float → Type 0
About c x = In binary64 (neg c) c x

-- r after one, two and three stages, and w
abbrev pub r1 : Float
r1 = decimal 786 3

abbrev pub r2 : Float
r2 = decimal 7861 4

abbrev pub r3 : Float
r3 = decimal 7862 4

abbrev pub w0 : Float
w0 = decimal 3 10

abbrev pub four : Float
four = # 0x4010000000000000

-- ---- r - (r - w), for an r - w below 1 in size: 2 ^ -53 from w at most
abbrev slip : Float
slip = # 0x3CA0000000000000

slip-is : Is binary64 slip
unfolding of_bits fits
slip-is = (tt, tt)

slip-enough : slack binary64 ≤ P binary64 slip
unfolding of_bits
slip-enough = leb→le (slack binary64) (P binary64 slip) tt

slip-positive : N binary64 slip ≡ 0
unfolding of_bits
slip-positive = refl

abbrev under_one : Float → Float → Float → Float → Bool
under_one rl rh wl wh = ltb (P binary64 rh + N binary64 wl) (N binary64 rh + P binary64 wl + 2 ^ low binary64) && ltb (N binary64 rl + P binary64 wh)
    (P binary64 rl + N binary64 wh + 2 ^ low binary64)

abbrev tails : Float → Float → Float → Float → Bool
tails rl rh wl wh = (finite (wl ⊖ slip) && finite (wh ⊕ slip)) && under_one rl rh wl wh

under : (pr nr pw nw pa na pb nb l : ℕ) → pr + na ≤ pa + nr → pb + nw ≤ pw + nb → pa + nb < na + pb + l → pr + nw < nr + pw + l
under pr nr pw nw pa na pb nb l h k t = omega arith

over : (pr nr pw nw pa na pb nb l : ℕ) → pa + nr ≤ pr + na → pw + nb ≤ pb + nw → na + pb < pa + nb + l → nr + pw < pr + nw + l
over pr nr pw nw pa na pb nb l h k t = omega arith

near-in : (r w rl rh wl wh : Float) → In binary64 rl rh r → In binary64 wl wh w → T (finite (r ⊖ w)) → T (tails rl rh wl wh)
    → In binary64 (wl ⊖ slip) (wh ⊕ slip) (r ⊖ (r ⊖ w))
near-in r w rl rh wl wh i j f t =
    let F = finite (wl ⊖ slip) && finite (wh ⊕ slip) in
    let A = ltb (P binary64 rh + N binary64 wl) (N binary64 rh + P binary64 wl + 2 ^ low binary64) in
    let B = ltb (N binary64 rl + P binary64 wh) (P binary64 rl + N binary64 wh + 2 ^ low binary64) in
    let u = and_l F (A && B) t in
    let v = and_r F (A && B) t in
    tail-in binary64 r w wl wh slip i.is j slip-is slip-enough slip-positive f
    (under (P binary64 r) (N binary64 r) (P binary64 w) (N binary64 w) (P binary64 rh) (N binary64 rh) (P binary64 wl) (N binary64 wl)
    (2 ^ low binary64) (le→units binary64 r rh i.is i.hi-is i.most) (le→units binary64 wl w j.lo-is j.is j.least)
    (ltb→lt _ _ (and_l A B v)))
    (over (P binary64 r) (N binary64 r) (P binary64 w) (N binary64 w) (P binary64 rl) (N binary64 rl) (P binary64 wh) (N binary64 wh)
    (2 ^ low binary64) (le→units binary64 rl r i.lo-is i.is i.least) (le→units binary64 w wh j.is j.hi-is j.most)
    (ltb→lt _ _ (and_r A B v)))
    (and_l (finite (wl ⊖ slip)) (finite (wh ⊕ slip)) u) (and_r (finite (wl ⊖ slip)) (finite (wh ⊕ slip)) u)

-- ---- `split`
abbrev pub ReducedIn : Reduced → Type 0
ReducedIn y = Wide-in y.y0 × Bit-in y.y1

y0-passes : T (check (neg wide) wide (minus 0 1 ∷ []) (range (neg r3) r3 ∷ range (neg w0) w0 ∷ []))
unfolding round neg add sub le fits
y0-passes = tt

tails-pass : T (tails (neg r3) r3 (neg w0) w0)
unfolding round of_bits neg add sub
tails-pass = tt

y1-passes : T (check (neg bit) bit (minus 0 1 ∷ []) (range (neg w0 ⊖ slip) (w0 ⊕ slip) ∷ range (neg w0) w0 ∷ []))
unfolding round of_bits neg add sub le fits
y1-passes = tt

pub split-in : (k : ℕ) (r w : Float) → About r3 r → About w0 w → ReducedIn (split k r w)
unfolding split
split-in k r w i j =
    let y0 = check_sound (neg wide) wide (minus 0 1 ∷ []) (range (neg r3) r3 ∷ range (neg w0) w0 ∷ []) (r ∷ w ∷ []) (i, (j, tt)) y0-passes in (
      y0,
      check_sound (neg bit) bit (minus 0 1 ∷ []) (range (neg w0 ⊖ slip) (w0 ⊕ slip) ∷ range (neg w0) w0 ∷ []) ((r ⊖ (r ⊖ w)) ∷ w ∷ [])
          (near-in r w (neg r3) r3 (neg w0) w0 i j y0.is.1 tails-pass, (j, tt)) y1-passes,
    )

-- ---- `stage`, for an f from 1 to 4: t goes from within ±a to within ±b, and f times the part lies from vl to vh
module _ (a b vl vh part tail : Float) where
  abbrev part-ok : Bool
  part-ok = check vl vh (lit part ∷ times 1 0 ∷ []) (range one four ∷ [])

  abbrev r-ok : Bool
  r-ok = check (neg b) b (minus 0 1 ∷ []) (range (neg a) a ∷ range vl vh ∷ [])

  abbrev w-ok : Bool
  w-ok = check (neg w0) w0 (lit tail ∷ times 3 0 ∷ minus 2 3 ∷ minus 1 0 ∷ []) (range (vl ⊖ slip) (vh ⊕ slip) ∷ range vl vh ∷ range one four ∷ [])

stage-in : (a b vl vh part tail t f : Float) → T (part-ok a b vl vh part tail) → T (r-ok a b vl vh part tail) → T (w-ok a b vl vh part tail)
    → T (tails (neg a) a vl vh)
    → About a t → In binary64 one four f → About b (stage t f part tail).r × About w0 (stage t f part tail).w
unfolding stage
stage-in a b vl vh part tail t f x y z d i j =
    let v = check_sound vl vh (lit part ∷ times 1 0 ∷ []) (range one four ∷ []) (f ∷ []) (j, tt) x in
    let r = check_sound (neg b) b (minus 0 1 ∷ []) (range (neg a) a ∷ range vl vh ∷ []) (t ∷ (f ⊗ part) ∷ []) (i, (v, tt)) y in (
      r,
      check_sound (neg w0) w0 (lit tail ∷ times 3 0 ∷ minus 2 3 ∷ minus 1 0 ∷ []) (range (vl ⊖ slip) (vh ⊕ slip) ∷ range vl vh ∷ range one four ∷ [])
          ((t ⊖ (t ⊖ f ⊗ part)) ∷ (f ⊗ part) ∷ f ∷ [])
          (near-in t (f ⊗ part) (neg a) a vl vh i v r.is.1 d, (v, (j, tt))) z,
    )

pub second-in : (t f : Float) → About r1 t → In binary64 one four f
    → About r2 (stage t f (pio2 2) (pio2t 2)).r × About w0 (stage t f (pio2 2) (pio2t 2)).w
unfolding round of_bits neg add sub mul le fits
second-in t f i j = stage-in r1 r2 (decimal 60 12) (decimal 244 12) (pio2 2) (pio2t 2) t f tt tt tt tt i j

pub third-in : (t f : Float) → About r2 t → In binary64 one four f
    → About r3 (stage t f (pio2 3) (pio2t 3)).r × About w0 (stage t f (pio2 3) (pio2t 3)).w
unfolding round of_bits neg add sub mul le fits
third-in t f i j = stage-in r2 r3 (decimal 202 23) (decimal 81 22) (pio2 3) (pio2t 3) t f tt tt tt tt i j
