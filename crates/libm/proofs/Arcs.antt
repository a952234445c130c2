-- The arc tangent of a number lies within ±pi/2, and not below 0 where the number is not; `atan2` of two lies within ±pi, and within ±pi/2 where the
-- second has its sign clear. Both by their last bit: pi and pi/2 are the binary64 nearest to them. Assumes nothing.
use Rattle.std.proofs.Common.{◌≡◌, ℕ, zero, suc, ◌+◌, ◌*◌, ◌^◌, ◌<◌, ◌≤◌, Bool, true, false, cond, ◌&&◌, ◌||◌, T, eqb, ltb, leb, ◌⊎◌, List, [], ◌∷◌, ℤ, pos, sym, refl, ap, ◌∙◌, subst, inl, inr, true≢false, zero-lt-suc, mul-pos, zero-mul, arith, ltb-false, ltb-true, ne_eqb, leb-false}
use mathlib.Core.Bool.{false≢true}
use lib.Ieee.{Float, nan, inf, fin, binary64, up, down, round, neg, add, sub, mul, div, le, eq, ne, is_nan, unlike, fits, of_bits, to_bits}
use lib.Ieee.Bits.{is_true}
use lib.Ieee.Fits.{and_l, and_r, up_pos, neg-fits, div-fits}
use lib.Ieee.Positive.{positive, between}
use lib.Ieee.Scale.{round_same, finite}
use Rattle.binary64.specs.Steps.{◌⊕◌, ◌⊖◌, ◌⊗◌, ◌⊘◌, #, decimal, nought, one, two, abs}
use Rattle.binary64.proofs.Patterns.{is-nan}
use Rattle.binary64.proofs.Units.{Is, P, le-trans-is}
use Rattle.binary64.proofs.Rounded.{round-neg}
use Rattle.binary64.proofs.Interval.{In, neg_is, neg-in, le_total}
use Rattle.binary64.proofs.Runs.{Step, lit, plus, minus, times, range, at, run, check, check_sound}
use Rattle.binary64.proofs.Order.{abs-cases, abs-in, abs-abs, weak, choice-in, neg-neg}
use Rattle.binary64.proofs.Quotient.{ratio-in}
use Rattle.binary64.proofs.Finite.{not-less}
use Rattle.binary64.proofs.Numbers.{Num, div-num, some-num}
use Rattle.libm.specs.Words.{high, word, negative, signed, switch}
use Rattle.libm.specs.Atan.{atanhi, atanlo, series, reduce, atan, pi, pi-lo, pi-o-2, signs, quarter, x_inf, quotient, atan2}
use Rattle.libm.specs.declared.atan.Arc.{Arc}
use Rattle.libm.proofs.Unsigned.{not_negative}
use Rattle.libm.proofs.HighWords.{word-is, high-below, high-above, high-between, zero-or-least}
use Rattle.libm.proofs.ArcBounds.{neither, zero_in, some}

-- ---- a run over an argument that is cut into pieces

-- the last of the cuts c, cs
abbrev final : Float → List Float → Float
final c [] = c
final c (d ∷ ds) = final d ds

abbrev is : Float → Bool
is c = fits binary64 c && finite c

abbrev walks : Float → Float → List Step → Float → List Float → Bool
walks A B os c [] = is c && check A B os (range c c ∷ [])
walks A B os c (d ∷ ds) = (is c && is d) && (check A B os (range c d ∷ []) && walks A B os d ds)

both : (c : Float) → T (is c) → Is binary64 c
both c t = (and_l (fits binary64 c) (finite c) t, and_r (fits binary64 c) (finite c) t)

walk : (A B : Float) (os : List Step) (c : Float) (cs : List Float) (x : Float) → T (walks A B os c cs) → Is binary64 x → T (le c x)
    → T (le x (final c cs)) → In binary64 A B (at (run os (x ∷ [])) 0)
walk A B os c [] x t p l h =
    let q = both c (and_l (is c) (check A B os (range c c ∷ [])) t) in
    check_sound A B os (range c c ∷ []) (x ∷ []) (record { lo-is = q; hi-is = q; is = p; least = l; most = h }, tt)
    (and_r (is c) (check A B os (range c c ∷ [])) t)
walk A B os c (d ∷ ds) x t p l h =
    let here = check A B os (range c d ∷ []) in
    let there = walks A B os d ds in
    let ends = and_l (is c && is d) (here && there) t in
    let rest = and_r (is c && is d) (here && there) t in
    let q = both c (and_l (is c) (is d) ends) in
    let r = both d (and_r (is c) (is d) ends) in
    elim (le_total binary64 x d p r) [
      | inl k ↦
          check_sound A B os (range c d ∷ []) (x ∷ []) (record { lo-is = q; hi-is = r; is = p; least = l; most = k }, tt) (and_l here there rest)
      | inr k ↦ walk A B os d ds x (and_r here there rest) p k h
    ]

-- ---- a quotient whose divisor is above 0
div_is : (s : Bool) (m : ℕ) (e : ℤ) (n : ℕ) (d : ℤ)
    → div binary64 (fin s m e) (fin false (suc n) d) ≡ round binary64 (unlike s false) (m * up e * down d) (suc n * up d * down e)
unfolding div
div_is s m e n d = ap (λ (b : Bool). cond b (cond (eqb m 0) nan (inf (unlike s false)))
    (round binary64 (unlike s false) (m * up e * down d) (suc n * up d * down e))) (ne_eqb (suc n) 0 (λ (h : suc n ≡ 0). omega arith))

div-neg : (x y : Float) → T (finite x) → T (positive y) → neg x ⊘ y ≡ neg (x ⊘ y)
unfolding neg
div-neg nan y p q = absurd p
div-neg (inf s) y p q = absurd p
div-neg (fin s m e) nan p q = absurd q
div-neg (fin s m e) (inf t) p q = absurd q
div-neg (fin s m e) (fin true n d) p q = absurd q
div-neg (fin s m e) (fin false zero d) p q = absurd q
div-neg (fin false m e) (fin false (suc n) d) p q =
    div_is true m e n d ∙ round-neg binary64 (m * up e * down d) (suc n * up d * down e) ∙ ap neg (sym (div_is false m e n d))
div-neg (fin true m e) (fin false (suc n) d) p q =
    div_is false m e n d ∙ sym (neg-neg (round binary64 false (m * up e * down d) (suc n * up d * down e)))
    ∙ ap neg (sym (round-neg binary64 (m * up e * down d) (suc n * up d * down e)) ∙ sym (div_is true m e n d))

nothing : round binary64 false 0 1 ≡ nought
unfolding round of_bits
nothing = refl

none_over : (y : Float) → T (positive y) → nought ⊘ y ≡ nought
unfolding of_bits
none_over nan q = absurd q
none_over (inf t) q = absurd q
none_over (fin true n d) q = absurd q
none_over (fin false zero d) q = absurd q
none_over (fin false (suc n) d) q =
    div_is false 0 (pos 0) n d
    ∙ round_same binary64 false (0 * 1 * down d) (suc n * up d * 1) 0 1 (mul-pos (mul-pos (zero-lt-suc n) (up_pos d)) (zero-lt-suc 0)) (zero-lt-suc 0)
    (ap (λ (z : ℕ). z * 1) (zero-mul (down d)) ∙ sym (zero-mul (suc n * up d * 1)))
    ∙ nothing

-- a zero of either sign
abbrev Zero : Float → Type 0
Zero v = (v ≡ nought) ⊎ (v ≡ neg nought)

zero_of : (v : Float) → Is binary64 v → abs v ≡ nought → Zero v
unfolding abs neg
zero_of nan p h = absurd p.1
zero_of (inf s) p h = absurd p.1
zero_of (fin false m e) p h = inl h
zero_of (fin true m e) p h = inr (ap neg h)

-- what lies within ±c, over what lies from l to h, lies within ±b, where c / l ≤ b
module _ (c b l h : Float) (b-is : Is binary64 b) (b-up : T (le nought b)) (b-down : T (le (neg b) nought)) (L : T (ltb 0 (P binary64 l)))
    (first : T (finite (# 1 ⊘ h))) (last : T (finite (c ⊘ l))) (low : T (le nought (# 1 ⊘ h))) (top : T (le (c ⊘ l) b)) where
  up_in : (n d : Float) → In binary64 (# 1) c n → In binary64 l h d → In binary64 nought b (n ⊘ d)
  unfolding of_bits fits
  up_in n d i j = weak nought b (# 1 ⊘ h) (c ⊘ l) (n ⊘ d) (tt, tt) b-is low top (ratio-in (# 1) c n l h d i j tt L first last)

  wide : (v : Float) → In binary64 nought b v → In binary64 (neg b) b v
  unfolding of_bits fits
  wide v i = record {
    lo-is = neg_is binary64 b b-is;
    hi-is = b-is;
    is = i.is;
    least = le-trans-is binary64 (neg b) nought v (neg_is binary64 b b-is) (tt, tt) i.is b-down i.least;
    most = i.most;
  }

  back : (v : Float) → In binary64 (neg b) b v → In binary64 (neg b) b (neg v)
  back v i = subst (λ (z : Float). In binary64 (neg b) z (neg v)) (neg-neg b) (neg-in binary64 (neg b) b v i)

  nought-in : In binary64 nought b nought
  unfolding of_bits fits le
  nought-in = record { lo-is = (tt, tt); hi-is = b-is; is = (tt, tt); least = tt; most = b-up }

  over-in : (n d : Float) → In binary64 (neg c) c n → In binary64 l h d → T (positive d) → In binary64 (neg b) b (n ⊘ d)
  unfolding of_bits fits
  over-in n d i j p = elim (zero-or-least n i.is) [
    | inl e ↦ elim (zero_of n i.is e) [
      | inl z ↦ subst (In binary64 (neg b) b) (sym (ap (λ (v : Float). v ⊘ d) z ∙ none_over d p)) (wide nought nought-in)
      | inr z ↦
          subst (In binary64 (neg b) b) (sym (ap (λ (v : Float). v ⊘ d) z ∙ div-neg nought d tt p ∙ ap neg (none_over d p)))
          (back nought (wide nought nought-in))
    ]
    | inr o ↦ elim (abs-cases n i.is.1) [
      | inl k ↦ wide (n ⊘ d) (up_in n d (record {
        lo-is = (tt, tt);
        hi-is = i.hi-is;
        is = i.is;
        least = subst (λ (v : Float). T (le (# 1) v)) k.0 o;
        most = i.most;
      }) j)
      | inr k ↦
          let m = neg n in
          let w = neg-in binary64 (neg c) c n i in
          subst (In binary64 (neg b) b) (ap neg (div-neg n d i.is.1 p) ∙ neg-neg (n ⊘ d))
          (back (m ⊘ d) (wide (m ⊘ d) (up_in m d (record {
            lo-is = (tt, tt);
            hi-is = i.hi-is;
            is = w.is;
            least = subst (λ (v : Float). T (le (# 1) v)) k.0 o;
            most = subst (λ (v : Float). T (le m v)) (neg-neg c) w.most;
          }) j)))
    ]
  ]

-- ---- the steps of the polynomial and of what follows it, from the reduced argument
abbrev series-then : List Step → List Step
series-then rest =
    times 0 0 ∷ times 0 0 ∷ lit (# 0x3F90AD3AE322DA11) ∷ times 1 0 ∷ lit (# 0x3FA97B4B24760DEB) ∷ plus 0 1 ∷ times 4 0 ∷ lit (# 0x3FB10D66A0D03D51)
    ∷ plus 0 1 ∷ times 7 0 ∷ lit (# 0x3FB745CDC54C206E) ∷ plus 0 1 ∷ times 10 0 ∷ lit (# 0x3FC24924920083FF) ∷ plus 0 1 ∷ times 13 0
    ∷ lit (# 0x3FD555555555550D) ∷ plus 0 1 ∷ times 17 0 ∷ lit (# 0xBFA2B4442C6A6C2F) ∷ times 18 0 ∷ lit (# 0xBFADDE2D52DEFD9A) ∷ plus 0 1
    ∷ times 21 0 ∷ lit (# 0xBFB3B0F2AF749A6D) ∷ plus 0 1 ∷ times 24 0 ∷ lit (# 0xBFBC71C6FE231671) ∷ plus 0 1 ∷ times 27 0
    ∷ lit (# 0xBFC999999998EBC4) ∷ plus 0 1 ∷ times 30 0 ∷ plus 14 0 ∷ rest

abbrev short-steps : List Step
short-steps = series-then (times 34 0 ∷ minus 35 0 ∷ [])

abbrev long-steps : Float → Float → List Step
long-steps hi lo = series-then (times 34 0 ∷ lit lo ∷ minus 1 0 ∷ minus 0 37 ∷ lit hi ∷ minus 0 1 ∷ [])

abbrev short : Float → Float
short x = x ⊖ x ⊗ series x

abbrev long : Float → Float → Float → Float
long hi lo x = hi ⊖ ((x ⊗ series x ⊖ lo) ⊖ x)

-- a quarter turn, and 7/16
abbrev pub q : Float
q = pi-o-2

abbrev near : Float
near = word 0x3fdc0000

short-passes : T (check (neg q) q short-steps (range (neg near) near ∷ []))
unfolding of_bits neg add sub mul le fits
short-passes = tt

short-in : (x : Float) → In binary64 (neg near) near x → In binary64 (neg q) q (short x)
unfolding series
short-in x i = check_sound (neg q) q short-steps (range (neg near) near ∷ []) (x ∷ []) (i, tt) short-passes

short-walks : T (walks nought q short-steps (word 0x3e200000) (# 0x3F30000000000000 ∷ # 0x3FB0000000000000 ∷ near ∷ []))
unfolding of_bits neg add sub mul le fits
short-walks = tt

short-up : (x : Float) → Is binary64 x → T (le (word 0x3e200000) x) → T (le x near) → In binary64 nought q (short x)
unfolding series
short-up x p l h = walk nought q short-steps (word 0x3e200000) (# 0x3F30000000000000 ∷ # 0x3FB0000000000000 ∷ near ∷ []) x short-walks p l h

-- ---- the four reductions
module _ (hi lo b : Float) (t : T (check nought q (long-steps hi lo) (range (neg b) b ∷ []))) where
  long-in : (x : Float) → In binary64 (neg b) b x → In binary64 nought q (long hi lo x)
  unfolding series
  long-in x i = check_sound nought q (long-steps hi lo) (range (neg b) b ∷ []) (x ∷ []) (i, tt) t

abbrev onehalf : Float
onehalf = # 0x3FF8000000000000

abbrev b1 : Float
b1 = decimal 16 2

abbrev b2 : Float
b2 = decimal 19 2

abbrev b3 : Float
b3 = decimal 34 2

passes1 : T (check nought q (long-steps (atanhi 0) (atanlo 0)) (range (neg b1) b1 ∷ []))
unfolding of_bits round neg add sub mul le fits
passes1 = tt

passes2 : T (check nought q (long-steps (atanhi 1) (atanlo 1)) (range (neg b2) b2 ∷ []))
unfolding of_bits round neg add sub mul le fits
passes2 = tt

passes3 : T (check nought q (long-steps (atanhi 2) (atanlo 2)) (range (neg b3) b3 ∷ []))
unfolding of_bits round neg add sub mul le fits
passes3 = tt

-- the cuts of the fourth, where the result comes to pi/2 by its last bit
abbrev far : Float
far = # 0xBFDAE147AE147AE1

abbrev cuts : List Float
cuts = # 0xBFAEB851EB851EB8 ∷ # 0xBF30000000000000 ∷ # 0xBDB0000000000000 ∷ # 0xBCB0000000000000 ∷ # 0xBBD0000000000000 ∷ []

walks4 : T (walks nought q (long-steps (atanhi 3) (atanlo 3)) far cuts)
unfolding of_bits neg add sub mul le fits
walks4 = tt

long-up : (x : Float) → In binary64 far (# 0xBBD0000000000000) x → In binary64 nought q (long (atanhi 3) (atanlo 3) x)
unfolding series
long-up x i = walk nought q (long-steps (atanhi 3) (atanlo 3)) far cuts x walks4 i.is i.least i.most

above0 : (l h d : Float) → T (positive l) → T (positive h) → In binary64 l h d → T (positive d)
above0 l h d p r i = between l d h p r i.least i.most

below1 : (a : Float) → In binary64 (word 0x3fdc0000) (word 0x3fe60000) a
    → In binary64 nought q (long (atanhi 0) (atanlo 0) ((two ⊗ a ⊖ one) ⊘ (two ⊕ a)))
unfolding of_bits round neg add sub mul div le fits
below1 a i =
    let c = decimal 375 3 in
    let l = decimal 24 1 in
    let h = decimal 27 1 in
    let n = check_sound (neg c) c (lit two ∷ times 0 1 ∷ lit one ∷ minus 1 0 ∷ []) (range (word 0x3fdc0000) (word 0x3fe60000) ∷ []) (a ∷ [])
    (i, tt) tt in
    let d = check_sound l h (lit two ∷ plus 0 1 ∷ []) (range (word 0x3fdc0000) (word 0x3fe60000) ∷ []) (a ∷ []) (i, tt) tt in
    long-in (atanhi 0) (atanlo 0) b1 passes1 _
    (over-in c b1 l h (tt, tt) tt tt tt tt tt tt tt (two ⊗ a ⊖ one) (two ⊕ a) n d (above0 l h (two ⊕ a) tt tt d))

below2 : (a : Float) → In binary64 (word 0x3fe60000) (word 0x3ff30000) a
    → In binary64 nought q (long (atanhi 1) (atanlo 1) ((a ⊖ one) ⊘ (a ⊕ one)))
unfolding of_bits round neg add sub mul div le fits
below2 a i =
    let c = decimal 3125 4 in
    let l = decimal 168 2 in
    let h = decimal 219 2 in
    let n = check_sound (neg c) c (lit one ∷ minus 1 0 ∷ []) (range (word 0x3fe60000) (word 0x3ff30000) ∷ []) (a ∷ []) (i, tt) tt in
    let d = check_sound l h (lit one ∷ plus 1 0 ∷ []) (range (word 0x3fe60000) (word 0x3ff30000) ∷ []) (a ∷ []) (i, tt) tt in
    long-in (atanhi 1) (atanlo 1) b2 passes2 _ (over-in c b2 l h (tt, tt) tt tt tt tt tt tt tt (a ⊖ one) (a ⊕ one) n d (above0 l h (a ⊕ one) tt tt d))

below3 : (a : Float) → In binary64 (word 0x3ff30000) (word 0x40038000) a
    → In binary64 nought q (long (atanhi 2) (atanlo 2) ((a ⊖ onehalf) ⊘ (one ⊕ onehalf ⊗ a)))
unfolding of_bits round neg add sub mul div le fits
below3 a i =
    let c = decimal 9375 4 in
    let l = decimal 278 2 in
    let h = decimal 466 2 in
    let n = check_sound (neg c) c (lit onehalf ∷ minus 1 0 ∷ []) (range (word 0x3ff30000) (word 0x40038000) ∷ []) (a ∷ []) (i, tt) tt in
    let d = check_sound l h (lit onehalf ∷ times 0 1 ∷ lit one ∷ plus 0 1 ∷ []) (range (word 0x3ff30000) (word 0x40038000) ∷ []) (a ∷ [])
    (i, tt) tt in
    long-in (atanhi 2) (atanlo 2) b3 passes3 _
    (over-in c b3 l h (tt, tt) tt tt tt tt tt tt tt (a ⊖ onehalf) (one ⊕ onehalf ⊗ a) n d (above0 l h (one ⊕ onehalf ⊗ a) tt tt d))

beyond : (a : Float) → In binary64 (word 0x40038000) (word 0x44100000) a → In binary64 nought q (long (atanhi 3) (atanlo 3) (neg one ⊘ a))
unfolding of_bits round neg div le fits
beyond a i =
    let l = word 0x40038000 in
    let h = word 0x44100000 in
    let o = check_sound one one (lit one ∷ []) [] [] tt tt in
    let r = ratio-in one one one l h a o i tt tt tt tt in
    let w = neg-in binary64 (one ⊘ h) (one ⊘ l) (one ⊘ a) r in
    long-up (neg one ⊘ a)
    (weak far (# 0xBBD0000000000000) (neg (one ⊘ l)) (neg (one ⊘ h)) (neg one ⊘ a) (tt, tt) (tt, tt) tt tt
    (subst (In binary64 (neg (one ⊘ l)) (neg (one ⊘ h))) (sym (div-neg one a tt (above0 l h a tt tt i))) w))

abbrev Good : Arc → Type 0
Good p = In binary64 nought q (long p.hi p.lo p.x)

arc-choice : (b : Bool) (p r : Arc) → (b ≡ true → Good p) → (b ≡ false → Good r) → Good (cond b p r)
arc-choice true p r i j = i refl
arc-choice false p r i j = j refl

reduced : (v : Float) → Is binary64 v → 0x3fdc0000 ≤ high v → high v < 0x44100000 → Good (reduce (abs v) (high v))
unfolding reduce
reduced v p l m =
    let a = abs v in
    let ix = high v in
    let between : (h k : ℕ) → k < 0x7ff00000 → h ≤ ix → ix < k → In binary64 (word h) (word k) a = λ h k K. high-between v p h k K in
    arc-choice (ltb ix 0x3ff30000) _ _
    (λ s. arc-choice (ltb ix 0x3fe60000) _ _
    (λ t. below1 a (between 0x3fdc0000 0x3fe60000 (omega arith) l (ltb-true ix 0x3fe60000 t)))
    (λ t. below2 a (between 0x3fe60000 0x3ff30000 (omega arith) (ltb-false ix 0x3fe60000 t) (ltb-true ix 0x3ff30000 s))))
    (λ s. arc-choice (ltb ix 0x40038000) _ _
    (λ t. below3 a (between 0x3ff30000 0x40038000 (omega arith) (ltb-false ix 0x3ff30000 s) (ltb-true ix 0x40038000 t)))
    (λ t. beyond a (between 0x40038000 0x44100000 (omega arith) (ltb-false ix 0x40038000 t) m)))

-- ---- `atan`
high-finite : (v : Float) → leb 0x44100000 (high v) ≡ false → T (finite v)
unfolding high to_bits
high-finite nan h = absurd (true≢false h)
high-finite (inf true) h = absurd (true≢false h)
high-finite (inf false) h = absurd (true≢false h)
high-finite (fin s m e) h = tt

equal-itself : (v : Float) → Num v → ne v v ≡ true → ⊥
unfolding is_nan
equal-itself v n h = subst Num (is-nan v h) n

const-in : (l h x : Float) → T (check l h (lit x ∷ []) []) → In binary64 l h x
const-in l h x t = check_sound l h (lit x ∷ []) [] [] tt t

near-in : (v : Float) → Is binary64 v → high v < 0x3fdc0000 → In binary64 (neg near) near v
unfolding of_bits neg le fits
near-in v p l = abs-in v near p (word-is 0x3fdc0000 (omega arith)) tt tt (high-below v p 0x3fdc0000 (omega arith) l)

near-quarter : (v : Float) → In binary64 (neg near) near v → In binary64 (neg q) q v
unfolding of_bits neg le fits
near-quarter v i = weak (neg q) q (neg near) near v (tt, tt) (tt, tt) tt tt i

upper : (v : Float) → In binary64 nought q v → In binary64 (neg q) q v
unfolding of_bits neg le fits
upper v i = weak (neg q) q nought q v (tt, tt) (tt, tt) tt tt i

turned : (v : Float) → In binary64 (neg q) q v → In binary64 (neg q) q (neg v)
turned v i = subst (λ (z : Float). In binary64 (neg q) z (neg v)) (neg-neg q) (neg-in binary64 (neg q) q v i)

signed-in : (x z : Float) → In binary64 nought q z → In binary64 (neg q) q (signed x z)
unfolding signed
signed-in x z i = choice-in (neg q) q (negative x) (neg z) z (λ _. turned z (upper z i)) (λ _. upper z i)

pub atan-in : (v : Float) → T (fits binary64 v) → Num v → In binary64 (neg q) q (atan v)
unfolding atan of_bits neg add sub le fits
atan-in v f n =
    choice-in (neg q) q (leb 0x44100000 (high v)) _ _
    (λ h. choice-in (neg q) q (ne v v) _ _ (λ e. absurd (equal-itself v n e))
    (λ e. choice-in (neg q) q (negative v) _ _
    (λ _. const-in (neg q) q (neg (atanhi 3) ⊖ atanlo 3) tt) (λ _. const-in (neg q) q (atanhi 3 ⊕ atanlo 3) tt)))
    (λ h.
    let p : Is binary64 v = (f, high-finite v h) in
    let m = leb-false 0x44100000 (high v) h in
    choice-in (neg q) q (ltb (high v) 0x3fdc0000) _ _
    (λ t. let i = near-in v p (ltb-true (high v) 0x3fdc0000 t) in
    choice-in (neg q) q (ltb (high v) 0x3e200000) _ _ (λ _. near-quarter v i) (λ _. short-in v i))
    (λ t. signed-in v _ (reduced v p (ltb-false (high v) 0x3fdc0000 t) m)))

-- of what has its sign clear
own-size : (v : Float) → T (finite v) → abs v ≡ v → T (le nought v)
unfolding abs
own-size nan p e = absurd p
own-size (inf s) p e = absurd p
own-size (fin true m d) p e = absurd (let z : false ≡ true = cc in false≢true z)
own-size (fin false m d) p e = not-less m d

signed_up : (x z : Float) → negative x ≡ false → In binary64 nought q z → In binary64 nought q (signed x z)
unfolding signed
signed_up x z e i = choice-in nought q (negative x) (neg z) z (λ s. absurd (true≢false (sym s ∙ e))) (λ _. i)

pub atan-up : (v : Float) → T (fits binary64 v) → Num v → abs v ≡ v → In binary64 nought q (atan v)
unfolding atan of_bits neg add sub le fits
atan-up v f n own =
    let plus : negative v ≡ false = not_negative v (is_true (fits binary64 v) f) own in
    choice-in nought q (leb 0x44100000 (high v)) _ _
    (λ h. choice-in nought q (ne v v) _ _ (λ e. absurd (equal-itself v n e))
    (λ e. choice-in nought q (negative v) _ _
    (λ s. absurd (true≢false (sym s ∙ plus))) (λ _. const-in nought q (atanhi 3 ⊕ atanlo 3) tt)))
    (λ h.
    let p : Is binary64 v = (f, high-finite v h) in
    let m = leb-false 0x44100000 (high v) h in
    choice-in nought q (ltb (high v) 0x3fdc0000) _ _
    (λ t.
    let i = near-in v p (ltb-true (high v) 0x3fdc0000 t) in
    choice-in nought q (ltb (high v) 0x3e200000) _ _
    (λ _. record {
      lo-is = (tt, tt);
      hi-is = (tt, tt);
      is = p;
      least = own-size v p.1 own;
      most = (near-quarter v i).most;
    })
    (λ u. short-up v p
    (subst (λ (z : Float). T (le (word 0x3e200000) z)) own (high-above v p 0x3e200000 (omega arith) (ltb-false (high v) 0x3e200000 u)))
    i.most))
    (λ t.
    let w = reduced v p (ltb-false (high v) 0x3fdc0000 t) m in
    signed_up v _ plus w))

-- ---- `atan2`
abs-fits : (v : Float) → T (fits binary64 v) → T (fits binary64 (abs v))
unfolding abs fits neg
abs-fits nan f = tt
abs-fits (inf s) f = tt
abs-fits (fin true m e) f = neg-fits binary64 (fin true m e) f
abs-fits (fin false m e) f = f

abs-num : (v : Float) → Num v → Num (abs v)
unfolding abs is_nan
abs-num nan n = n
abs-num (inf s) n = tt
abs-num (fin s m e) n = tt

-- of two that are finite and not 0
ratio-up : (y x : Float) → T (positive (abs y)) → T (positive (abs x)) → In binary64 nought q (quotient y x)
unfolding quotient of_bits add sub mul le fits
ratio-up y x Y X =
    choice-in nought q (leb (high x + 61 * 2 ^ 20) (high y)) _ _ (λ _. const-in nought q _ tt)
    (λ _. choice-in nought q (negative x && ltb (high y + 60 * 2 ^ 20) (high x)) _ _ (λ _. const-in nought q nought tt)
    (λ _. atan-up (abs (y ⊘ x)) (abs-fits (y ⊘ x) (div-fits binary64 y x)) (abs-num (y ⊘ x) (div-num binary64 y x Y (some-num x X)))
    (abs-abs (y ⊘ x))))

-- within ±pi
abbrev P2 : Float → Type 0
P2 v = In binary64 (neg pi) pi v

half_of : (v : Float) → In binary64 (neg q) q v → P2 v
unfolding of_bits neg le fits
half_of v i = weak (neg pi) pi (neg q) q v (tt, tt) (tt, tt) tt tt i

switch-half : (m : ℕ) (a b c d : Float) → P2 a → P2 b → P2 c → P2 d → P2 (switch m a b c d)
unfolding switch
switch-half m a b c d i j k l =
    choice-in (neg pi) pi (eqb m 0) _ _ (λ _. i)
    (λ _. choice-in (neg pi) pi (eqb m 1) _ _ (λ _. j) (λ _. choice-in (neg pi) pi (eqb m 2) _ _ (λ _. k) (λ _. l)))

quarter-in : (y : Float) → In binary64 (neg q) q (quarter y)
unfolding quarter of_bits neg add sub le fits
quarter-in y = choice-in (neg q) q (negative y) _ _ (λ _. const-in (neg q) q _ tt) (λ _. const-in (neg q) q _ tt)

infinite-half : (m iy : ℕ) → P2 (x_inf m iy)
unfolding x_inf of_bits neg add sub mul le fits
infinite-half m iy =
    choice-in (neg pi) pi (eqb iy 0x7ff00000) _ _
    (λ _. switch-half m _ _ _ _ (const-in (neg pi) pi _ tt) (const-in (neg pi) pi _ tt) (const-in (neg pi) pi _ tt) (const-in (neg pi) pi _ tt))
    (λ _. switch-half m _ _ _ _ (const-in (neg pi) pi _ tt) (const-in (neg pi) pi _ tt) (const-in (neg pi) pi _ tt) (const-in (neg pi) pi _ tt))

abbrev third-steps : List Step
third-steps = lit pi-lo ∷ minus 1 0 ∷ lit pi ∷ minus 0 1 ∷ []

abbrev fourth-steps : List Step
fourth-steps = lit pi-lo ∷ minus 1 0 ∷ lit pi ∷ minus 1 0 ∷ []

third-passes : T (check (neg pi) pi third-steps (range nought q ∷ []))
unfolding of_bits neg add sub le fits
third-passes = tt

fourth-passes : T (check (neg pi) pi fourth-steps (range nought q ∷ []))
unfolding of_bits neg add sub le fits
fourth-passes = tt

quadrants-half : (m : ℕ) (z : Float) → In binary64 nought q z → P2 (switch m z (neg z) (pi ⊖ (z ⊖ pi-lo)) ((z ⊖ pi-lo) ⊖ pi))
quadrants-half m z i =
    switch-half m _ _ _ _ (half_of z (upper z i)) (half_of (neg z) (turned z (upper z i)))
    (check_sound (neg pi) pi third-steps (range nought q ∷ []) (z ∷ []) (i, tt) third-passes)
    (check_sound (neg pi) pi fourth-steps (range nought q ∷ []) (z ∷ []) (i, tt) fourth-passes)

zero-quarter : (y : Float) → In binary64 nought nought y → In binary64 (neg q) q y
unfolding of_bits neg le fits
zero-quarter y i = weak (neg q) q nought nought y (tt, tt) (tt, tt) tt tt i

pub atan2-half : (y x : Float) → T (fits binary64 y) → Num y → Num x → In binary64 (neg pi) pi (atan2 y x)
unfolding atan2 of_bits neg add sub le fits
atan2-half y x f n k =
    choice-in (neg pi) pi (ne x x || ne y y) _ _ (λ h. absurd (neither x y k n h))
    (λ _. choice-in (neg pi) pi (eq x one) _ _ (λ _. half_of _ (atan-in y f n))
    (λ _. choice-in (neg pi) pi (eq y nought) _ _ (λ h. let z = half_of y (zero-quarter y (zero_in y f h)) in
    switch-half (signs y x) _ _ _ _ z z (const-in (neg pi) pi _ tt) (const-in (neg pi) pi _ tt))
    (λ a. choice-in (neg pi) pi (eq x nought) _ _ (λ _. half_of _ (quarter-in y))
    (λ b. choice-in (neg pi) pi (eqb (high x) 0x7ff00000) _ _ (λ _. infinite-half (signs y x) (high y))
    (λ c. choice-in (neg pi) pi (eqb (high y) 0x7ff00000) _ _ (λ _. half_of _ (quarter-in y))
    (λ d. quadrants-half (signs y x) (quotient y x) (ratio-up y x (some y n a d) (some x k b c))))))))

-- of a second that has its sign clear: the third and the fourth case never come up
first_two : (y x : Float) (a b c d : Float) → negative x ≡ false → In binary64 (neg q) q a → In binary64 (neg q) q b
    → In binary64 (neg q) q (switch (signs y x) a b c d)
unfolding signs switch
first_two y x a b c d e i j =
    subst (λ (t : Bool). In binary64 (neg q) q (switch (2 * cond t 1 0 + cond (negative y) 1 0) a b c d)) (sym e) (go (negative y))
  where
    go : (t : Bool) → In binary64 (neg q) q (switch (2 * 0 + cond t 1 0) a b c d)
    go true = j
    go false = i

infinite-quarter : (y x : Float) → negative x ≡ false → (iy : ℕ) → In binary64 (neg q) q (x_inf (signs y x) iy)
unfolding x_inf of_bits neg add sub mul le fits
infinite-quarter y x e iy =
    choice-in (neg q) q (eqb iy 0x7ff00000) _ _
    (λ _. first_two y x _ _ _ _ e (const-in (neg q) q _ tt) (const-in (neg q) q _ tt))
    (λ _. first_two y x _ _ _ _ e (const-in (neg q) q _ tt) (const-in (neg q) q _ tt))

pub atan2-quarter : (y x : Float) → T (fits binary64 y) → Num y → Num x → negative x ≡ false → In binary64 (neg q) q (atan2 y x)
unfolding atan2 of_bits neg add sub le fits
atan2-quarter y x f n k e =
    choice-in (neg q) q (ne x x || ne y y) _ _ (λ h. absurd (neither x y k n h))
    (λ _. choice-in (neg q) q (eq x one) _ _ (λ _. atan-in y f n)
    (λ _. choice-in (neg q) q (eq y nought) _ _ (λ h. let z = zero-quarter y (zero_in y f h) in first_two y x _ _ _ _ e z z)
    (λ a. choice-in (neg q) q (eq x nought) _ _ (λ _. quarter-in y)
    (λ b. choice-in (neg q) q (eqb (high x) 0x7ff00000) _ _ (λ _. infinite-quarter y x e (high y))
    (λ c. choice-in (neg q) q (eqb (high y) 0x7ff00000) _ _ (λ _. quarter-in y)
    (λ d. let z = ratio-up y x (some y n a d) (some x k b c) in
    first_two y x _ _ _ _ e (upper _ z) (turned _ (upper _ z))))))))
