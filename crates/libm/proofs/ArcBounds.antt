-- The arc tangent of a number lies within ±3.8, and `atan2` of two within ±6.95: enough for a latitude or a longitude, in degrees and back, to be an
-- angle within ±7. (Both are within ±pi by far finer bounds; intervals as coarse as these need no cuts of the argument.) Assumes nothing.
use Rattle.std.proofs.Common.{◌≡◌, ℕ, zero, suc, ◌+◌, ◌*◌, ◌^◌, ◌<◌, ◌≤◌, Bool, true, false, cond, ◌&&◌, ◌||◌, T, eqb, ltb, leb, List, [], ◌∷◌, ℤ, sym, refl, ap, ◌∙◌, subst, inl, inr, true≢false, zero-lt-suc, zero-mul, mul-one, arith, eqb→eq, lt→ltb, ltb-false, ltb-true, leb-false}
use mathlib.Core.Bool.{beq, false≢true}
use lib.Ieee.{Float, nan, inf, fin, binary64, up, down, round, add, sub, mul, neg, le, lt, eq, ne, is_nan, fits, of_bits, to_bits}
use lib.Ieee.Bits.{is_true}
use lib.Ieee.Fits.{and_i, and_l, eq→eqb, neg-fits, div-fits}
use lib.Ieee.Positive.{positive}
use lib.Ieee.Scale.{finite}
use Rattle.binary64.specs.Steps.{◌⊕◌, ◌⊖◌, ◌⊗◌, ◌⊘◌, #, decimal, nought, one, two, abs}
use Rattle.binary64.proofs.Patterns.{is-nan}
use Rattle.binary64.proofs.Units.{Is, le-trans-is, or_r}
use Rattle.binary64.proofs.Interval.{In, neg-in}
use Rattle.binary64.proofs.Runs.{Step, lit, plus, minus, times, range, check, check_sound}
use Rattle.binary64.proofs.Order.{cases, holds, abs-in, weak, choice-in}
use Rattle.binary64.proofs.Quotient.{quotient-in}
use Rattle.binary64.proofs.Numbers.{Num, div-num, some-num, add_none, none-add}
use Rattle.libm.specs.Words.{high, word, negative, signed, switch}
use Rattle.libm.specs.Atan.{atanhi, atanlo, series, reduce, atan, pi, pi-lo, signs, quarter, x_inf, quotient, atan2}
use Rattle.libm.specs.declared.atan.Arc.{Arc}
use Rattle.libm.proofs.HighWords.{word-is, high-below, high-between}
use Rattle.libm.proofs.KernelBounds.{Unit-in}

abbrev arc : Float
arc = decimal 38 1

abbrev pub arc2 : Float
arc2 = decimal 695 2

-- a constant, by computing
const-in : (c x : Float) → T (check (neg c) c (lit x ∷ []) []) → In binary64 (neg c) c x
const-in c x t = check_sound (neg c) c (lit x ∷ []) [] [] tt t

neg-about : (c x : Float) → In binary64 (neg c) c x → neg (neg c) ≡ c → In binary64 (neg c) c (neg x)
neg-about c x i e = subst (λ (z : Float). In binary64 (neg c) z (neg x)) e (neg-in binary64 (neg c) c x i)

-- ---- the polynomial
abbrev series-steps : List Step
series-steps =
    times 0 0 ∷ times 0 0 ∷ lit (# 0x3F90AD3AE322DA11) ∷ times 1 0 ∷ lit (# 0x3FA97B4B24760DEB) ∷ plus 0 1 ∷ times 4 0 ∷ lit (# 0x3FB10D66A0D03D51)
    ∷ plus 0 1 ∷ times 7 0 ∷ lit (# 0x3FB745CDC54C206E) ∷ plus 0 1 ∷ times 10 0 ∷ lit (# 0x3FC24924920083FF) ∷ plus 0 1 ∷ times 13 0
    ∷ lit (# 0x3FD555555555550D) ∷ plus 0 1 ∷ times 17 0 ∷ lit (# 0xBFA2B4442C6A6C2F) ∷ times 18 0 ∷ lit (# 0xBFADDE2D52DEFD9A) ∷ plus 0 1
    ∷ times 21 0 ∷ lit (# 0xBFB3B0F2AF749A6D) ∷ plus 0 1 ∷ times 24 0 ∷ lit (# 0xBFBC71C6FE231671) ∷ plus 0 1 ∷ times 27 0
    ∷ lit (# 0xBFC999999998EBC4) ∷ plus 0 1 ∷ times 30 0 ∷ plus 14 0 ∷ []

abbrev s0 : Float
s0 = decimal 119 2

series-passes : T (check (neg s0) s0 series-steps (range (neg one) one ∷ []))
unfolding of_bits round neg add mul le fits
series-passes = tt

series-in : (x : Float) → Unit-in x → In binary64 (neg s0) s0 (series x)
unfolding series
series-in x i = check_sound (neg s0) s0 series-steps (range (neg one) one ∷ []) (x ∷ []) (i, tt) series-passes

-- over x and its series: with no reduction, and with one, over hi and lo besides
abbrev short-steps : List Step
short-steps = times 0 1 ∷ minus 1 0 ∷ []

abbrev long-steps : List Step
long-steps = times 0 1 ∷ minus 0 4 ∷ minus 0 2 ∷ minus 5 0 ∷ []

short-passes : T (check (neg arc) arc short-steps (range (neg one) one ∷ range (neg s0) s0 ∷ []))
unfolding of_bits round neg add sub mul le fits
short-passes = tt

abbrev hi0 : Float
hi0 = decimal 158 2

abbrev lo0 : Float
lo0 = decimal 1 9

long-passes : T (check (neg arc) arc long-steps (range (neg one) one ∷ range (neg s0) s0 ∷ range nought hi0 ∷ range nought lo0 ∷ []))
unfolding of_bits round neg add sub mul le fits
long-passes = tt

short-in : (x : Float) → Unit-in x → In binary64 (neg arc) arc (x ⊖ x ⊗ series x)
short-in x i = check_sound (neg arc) arc short-steps (range (neg one) one ∷ range (neg s0) s0 ∷ []) (x ∷ series x ∷ [])
    (i, (series-in x i, tt)) short-passes

-- ---- the reduction
abbrev ArcIn : Arc → Type 0
ArcIn p = Unit-in p.x × In binary64 nought hi0 p.hi × In binary64 nought lo0 p.lo

long-in : (p : Arc) → ArcIn p → In binary64 (neg arc) arc (p.hi ⊖ ((p.x ⊗ series p.x ⊖ p.lo) ⊖ p.x))
long-in p i =
    check_sound (neg arc) arc long-steps (range (neg one) one ∷ range (neg s0) s0 ∷ range nought hi0 ∷ range nought lo0 ∷ [])
    (p.x ∷ series p.x ∷ p.hi ∷ p.lo ∷ [])
    (i.0, (series-in p.x i.0, (i.1, (i.2, tt)))) long-passes

abbrev far : Float
far = # 0x4430000000000000

abbrev onehalf : Float
onehalf = # 0x3FF8000000000000

below1 : (a : Float) → In binary64 (word 0x3fdc0000) (word 0x3fe60000) a → Unit-in ((two ⊗ a ⊖ one) ⊘ (two ⊕ a))
unfolding of_bits neg add sub mul le fits
below1 a i =
    let n = check_sound (neg one) one (lit two ∷ times 0 1 ∷ lit one ∷ minus 1 0 ∷ []) (range (word 0x3fdc0000) (word 0x3fe60000) ∷ []) (a ∷ [])
    (i, tt) tt in
    let d = check_sound one far (lit two ∷ plus 0 1 ∷ []) (range (word 0x3fdc0000) (word 0x3fe60000) ∷ []) (a ∷ []) (i, tt) tt in
    quotient-in (two ⊗ a ⊖ one) (two ⊕ a) n d.is d.least

below2 : (a : Float) → In binary64 (word 0x3fe60000) (word 0x3ff30000) a → Unit-in ((a ⊖ one) ⊘ (a ⊕ one))
unfolding of_bits neg add sub mul le fits
below2 a i =
    let n = check_sound (neg one) one (lit one ∷ minus 1 0 ∷ []) (range (word 0x3fe60000) (word 0x3ff30000) ∷ []) (a ∷ []) (i, tt) tt in
    let d = check_sound one far (lit one ∷ plus 1 0 ∷ []) (range (word 0x3fe60000) (word 0x3ff30000) ∷ []) (a ∷ []) (i, tt) tt in
    quotient-in (a ⊖ one) (a ⊕ one) n d.is d.least

below3 : (a : Float) → In binary64 (word 0x3ff30000) (word 0x40038000) a → Unit-in ((a ⊖ onehalf) ⊘ (one ⊕ onehalf ⊗ a))
unfolding of_bits neg add sub mul le fits
below3 a i =
    let n = check_sound (neg one) one (lit onehalf ∷ minus 1 0 ∷ []) (range (word 0x3ff30000) (word 0x40038000) ∷ []) (a ∷ []) (i, tt) tt in
    let d = check_sound one far (lit onehalf ∷ times 0 1 ∷ lit one ∷ plus 0 1 ∷ []) (range (word 0x3ff30000) (word 0x40038000) ∷ []) (a ∷ [])
    (i, tt) tt in
    quotient-in (a ⊖ onehalf) (one ⊕ onehalf ⊗ a) n d.is d.least

beyond : (a : Float) → In binary64 (word 0x40038000) (word 0x44100000) a → Unit-in (neg one ⊘ a)
unfolding of_bits neg add sub mul le fits
beyond a i =
    let n = check_sound (neg one) one (lit (neg one) ∷ []) [] [] tt tt in
    quotient-in (neg one) a n i.is (le-trans-is binary64 one (word 0x40038000) a (tt, tt) i.lo-is i.is tt i.least)

arc-choice : (b : Bool) (p q : Arc) → (b ≡ true → ArcIn p) → (b ≡ false → ArcIn q) → ArcIn (cond b p q)
arc-choice true p q i j = i refl
arc-choice false p q i j = j refl

reduce-in : (v : Float) → Is binary64 v → 0x3fdc0000 ≤ high v → high v < 0x44100000 → ArcIn (reduce (abs v) (high v))
unfolding reduce of_bits round le fits
reduce-in v p l m =
    let a = abs v in
    let ix = high v in
    let between : (h k : ℕ) → k < 0x7ff00000 → h ≤ ix → ix < k → In binary64 (word h) (word k) a = λ h k K. high-between v p h k K in
    arc-choice (ltb ix 0x3ff30000) _ _
    (λ s. arc-choice (ltb ix 0x3fe60000) _ _
    (λ t. (below1 a (between 0x3fdc0000 0x3fe60000 (omega arith) l (ltb-true ix 0x3fe60000 t)), part 0 tt, rest 0 tt))
    (λ t. (below2 a (between 0x3fe60000 0x3ff30000 (omega arith) (ltb-false ix 0x3fe60000 t) (ltb-true ix 0x3ff30000 s)), part 1 tt, rest 1 tt)))
    (λ s. arc-choice (ltb ix 0x40038000) _ _
    (λ t. (below3 a (between 0x3ff30000 0x40038000 (omega arith) (ltb-false ix 0x3ff30000 s) (ltb-true ix 0x40038000 t)), part 2 tt, rest 2 tt))
    (λ t. (beyond a (between 0x40038000 0x44100000 (omega arith) (ltb-false ix 0x40038000 t) m), part 3 tt, rest 3 tt)))
  where
    part : (k : ℕ) → T (check nought hi0 (lit (atanhi k) ∷ []) []) → In binary64 nought hi0 (atanhi k)
    part k t = check_sound nought hi0 (lit (atanhi k) ∷ []) [] [] tt t

    rest : (k : ℕ) → T (check nought lo0 (lit (atanlo k) ∷ []) []) → In binary64 nought lo0 (atanlo k)
    rest k t = check_sound nought lo0 (lit (atanlo k) ∷ []) [] [] tt t

-- ---- `atan`
high-finite : (v : Float) → leb 0x44100000 (high v) ≡ false → T (finite v)
unfolding high to_bits
high-finite nan h = absurd (true≢false h)
high-finite (inf true) h = absurd (true≢false h)
high-finite (inf false) h = absurd (true≢false h)
high-finite (fin s m e) h = tt

short-unit : (v : Float) → Is binary64 v → high v < 0x3fdc0000 → Unit-in v
unfolding of_bits neg le fits
short-unit v p l =
    weak (neg one) one (neg (word 0x3fdc0000)) (word 0x3fdc0000) v (tt, tt) (tt, tt) tt tt
    (abs-in v (word 0x3fdc0000) p (word-is 0x3fdc0000 (omega arith)) tt tt (high-below v p 0x3fdc0000 (omega arith) l))

unit-arc : (v : Float) → Unit-in v → In binary64 (neg arc) arc v
unfolding of_bits round neg le fits
unit-arc v i = weak (neg arc) arc (neg one) one v (tt, tt) (tt, tt) tt tt i

arc-twice : neg (neg arc) ≡ arc
unfolding round neg
arc-twice = refl

signed-in : (x z : Float) → In binary64 (neg arc) arc z → In binary64 (neg arc) arc (signed x z)
unfolding signed
signed-in x z i = go (negative x)
  where
    go : (b : Bool) → In binary64 (neg arc) arc (cond b (neg z) z)
    go true = neg-about arc z i arc-twice
    go false = i

-- a number equals itself
equal-itself : (v : Float) → Num v → ne v v ≡ true → ⊥
unfolding is_nan
equal-itself v n h = subst Num (is-nan v h) n

pub neither : (x y : Float) → Num x → Num y → (ne x x || ne y y) ≡ true → ⊥
neither x y n k h = elim (cases (ne x x)) [
  | inl p ↦ equal-itself x n p
  | inr p ↦ equal-itself y k (sym (ap (λ (b : Bool). b || ne y y) p) ∙ h)
]

atan-in : (v : Float) → T (fits binary64 v) → Num v → In binary64 (neg arc) arc (atan v)
unfolding atan of_bits round neg add sub le fits
atan-in v f n =
    choice-in (neg arc) arc (leb 0x44100000 (high v)) _ _
    (λ h. choice-in (neg arc) arc (ne v v) _ _ (λ e. absurd (equal-itself v n e))
    (λ e. choice-in (neg arc) arc (negative v) _ _
    (λ _. const-in arc (neg (atanhi 3) ⊖ atanlo 3) tt) (λ _. const-in arc (atanhi 3 ⊕ atanlo 3) tt)))
    (λ h.
    let p : Is binary64 v = (f, high-finite v h) in
    let m = leb-false 0x44100000 (high v) h in
    choice-in (neg arc) arc (ltb (high v) 0x3fdc0000) _ _
    (λ t. let i = short-unit v p (ltb-true (high v) 0x3fdc0000 t) in
    choice-in (neg arc) arc (ltb (high v) 0x3e200000) _ _ (λ _. unit-arc v i) (λ _. short-in v i))
    (λ t. signed-in v _ (long-in (reduce (abs v) (high v)) (reduce-in v p (ltb-false (high v) 0x3fdc0000 t) m))))

-- ---- `atan2`
-- a zero, of either sign
pub zero_in : (y : Float) → T (fits binary64 y) → eq y nought ≡ true → In binary64 nought nought y
unfolding of_bits eq le fits
zero_in nan f h = absurd (false≢true h)
zero_in (inf s) f h = absurd (false≢true h)
zero_in (fin s m e) f h =
    let y = fin s m e in
    let t : T (eq y nought) = holds (eq y nought) h in
    let a = m * up e * 1 in
    let b = 0 * 1 * down e in
    let w : a ≡ b = eqb→eq a b (and_l (eqb a b) (beq s false || eqb a 0) t) in
    let z : b ≡ 0 = zero-mul (down e) in
    let back : T (eq nought y) = and_i (eqb b a) (beq false s || eqb b 0) (eq→eqb (sym w)) (or_r (beq false s) (eqb b 0) (eq→eqb z)) in
    record {
      lo-is = (tt, tt);
      hi-is = (tt, tt);
      is = (f, tt);
      least = or_r (lt nought y) (eq nought y) back;
      most =
          or_r (lt y nought) (eq y nought) t;
    }

switch-in : (c : Float) (m : ℕ) (p q r s : Float) → In binary64 (neg c) c p → In binary64 (neg c) c q → In binary64 (neg c) c r
    → In binary64 (neg c) c s → In binary64 (neg c) c (switch m p q r s)
unfolding switch
switch-in c m p q r s i j k l =
    choice-in (neg c) c (eqb m 0) _ _ (λ _. i)
    (λ _. choice-in (neg c) c (eqb m 1) _ _ (λ _. j) (λ _. choice-in (neg c) c (eqb m 2) _ _ (λ _. k) (λ _. l)))

quarter-in : (y : Float) → In binary64 (neg arc2) arc2 (quarter y)
unfolding quarter of_bits round neg add sub le fits
quarter-in y = choice-in (neg arc2) arc2 (negative y) _ _ (λ _. const-in arc2 _ tt) (λ _. const-in arc2 _ tt)

infinite-in : (m iy : ℕ) → In binary64 (neg arc2) arc2 (x_inf m iy)
unfolding x_inf of_bits round neg add sub mul le fits
infinite-in m iy =
    choice-in (neg arc2) arc2 (eqb iy 0x7ff00000) _ _
    (λ _. switch-in arc2 m _ _ _ _ (const-in arc2 _ tt) (const-in arc2 _ tt) (const-in arc2 _ tt) (const-in arc2 _ tt))
    (λ _. switch-in arc2 m _ _ _ _ (const-in arc2 _ tt) (const-in arc2 _ tt) (const-in arc2 _ tt) (const-in arc2 _ tt))

abs-fits : (v : Float) → T (fits binary64 v) → T (fits binary64 (abs v))
unfolding abs fits neg
abs-fits nan f = tt
abs-fits (inf s) f = tt
abs-fits (fin true m e) f = neg-fits binary64 (fin true m e) f
abs-fits (fin false m e) f = f

abs-num : (v : Float) → Num v → Num (abs v)
unfolding abs is_nan
abs-num nan n = n
abs-num (inf s) n = tt
abs-num (fin s m e) n = tt

-- of two that are finite and not 0
ratio-in : (y x : Float) → T (positive (abs y)) → T (positive (abs x)) → In binary64 (neg arc) arc (quotient y x)
unfolding quotient of_bits round neg add sub mul le fits
ratio-in y x Y X =
    choice-in (neg arc) arc (leb (high x + 61 * 2 ^ 20) (high y)) _ _ (λ _. const-in arc _ tt)
    (λ _. choice-in (neg arc) arc (negative x && ltb (high y + 60 * 2 ^ 20) (high x)) _ _ (λ _. const-in arc nought tt)
    (λ _. atan-in (abs (y ⊘ x)) (abs-fits (y ⊘ x) (div-fits binary64 y x)) (abs-num (y ⊘ x) (div-num binary64 y x Y (some-num x X)))))

abbrev third-steps : List Step
third-steps = lit pi-lo ∷ minus 1 0 ∷ lit pi ∷ minus 0 1 ∷ []

abbrev fourth-steps : List Step
fourth-steps = lit pi-lo ∷ minus 1 0 ∷ lit pi ∷ minus 1 0 ∷ []

third-passes : T (check (neg arc2) arc2 third-steps (range (neg arc) arc ∷ []))
unfolding of_bits round neg add sub le fits
third-passes = tt

fourth-passes : T (check (neg arc2) arc2 fourth-steps (range (neg arc) arc ∷ []))
unfolding of_bits round neg add sub le fits
fourth-passes = tt

arc-arc2 : (z : Float) → In binary64 (neg arc) arc z → In binary64 (neg arc2) arc2 z
unfolding round neg le fits
arc-arc2 z i = weak (neg arc2) arc2 (neg arc) arc z (tt, tt) (tt, tt) tt tt i

quadrants-in : (m : ℕ) (z : Float) → In binary64 (neg arc) arc z
    → In binary64 (neg arc2) arc2 (switch m z (neg z) (pi ⊖ (z ⊖ pi-lo)) ((z ⊖ pi-lo) ⊖ pi))
quadrants-in m z i =
    switch-in arc2 m _ _ _ _ (arc-arc2 z i) (arc-arc2 (neg z) (neg-about arc z i arc-twice))
    (check_sound (neg arc2) arc2 third-steps (range (neg arc) arc ∷ []) (z ∷ []) (i, tt) third-passes)
    (check_sound (neg arc2) arc2 fourth-steps (range (neg arc) arc ∷ []) (z ∷ []) (i, tt) fourth-passes)

zero-arc2 : (y : Float) → In binary64 nought nought y → In binary64 (neg arc2) arc2 y
unfolding of_bits round neg le fits
zero-arc2 y i = weak (neg arc2) arc2 nought nought y (tt, tt) (tt, tt) tt tt i

nothing : (e : ℤ) → 0 * up e * 1 ≡ 0
nothing e = mul-one (0 * up e) ∙ zero-mul (up e)

no-digits : (s : Bool) (e : ℤ) → eq (fin s 0 e) nought ≡ true
unfolding eq of_bits
no-digits true e =
    is_true _
    (and_i (eqb (0 * up e * 1) (0 * 1 * down e)) (eqb (0 * up e * 1) 0) (eq→eqb (nothing e ∙ sym (zero-mul (down e)))) (eq→eqb (nothing e)))
no-digits false e = is_true _ (and_i (eqb (0 * up e * 1) (0 * 1 * down e)) true (eq→eqb (nothing e ∙ sym (zero-mul (down e)))) tt)

-- a number that is not 0 and has not the high word of an infinity
pub some : (x : Float) → Num x → eq x nought ≡ false → eqb (high x) 0x7ff00000 ≡ false → T (positive (abs x))
unfolding eq is_nan high to_bits abs of_bits
some nan n z h = absurd n
some (inf true) n z h = absurd (true≢false h)
some (inf false) n z h = absurd (true≢false h)
some (fin s zero e) n z h = absurd (true≢false (sym (no-digits s e) ∙ z))
some (fin s (suc m) e) n z h = lt→ltb 0 (suc m) (zero-lt-suc m)

pub atan2-in : (y x : Float) → T (fits binary64 y) → Num y → Num x → In binary64 (neg arc2) arc2 (atan2 y x)
unfolding atan2 of_bits round neg add sub le fits
atan2-in y x f n k =
    choice-in (neg arc2) arc2 (ne x x || ne y y) _ _ (λ h. absurd (neither x y k n h))
    (λ _. choice-in (neg arc2) arc2 (eq x one) _ _ (λ _. arc-arc2 _ (atan-in y f n))
    (λ _. choice-in (neg arc2) arc2 (eq y nought) _ _ (λ h. let z = zero-arc2 y (zero_in y f h) in
    switch-in arc2 (signs y x) _ _ _ _ z z (const-in arc2 _ tt) (const-in arc2 _ tt))
    (λ a. choice-in (neg arc2) arc2 (eq x nought) _ _ (λ _. quarter-in y)
    (λ b. choice-in (neg arc2) arc2 (eqb (high x) 0x7ff00000) _ _ (λ _. infinite-in (signs y x) (high y))
    (λ c. choice-in (neg arc2) arc2 (eqb (high y) 0x7ff00000) _ _ (λ _. quarter-in y)
    (λ d. quadrants-in (signs y x) (quotient y x) (ratio-in y x (some y n a d) (some x k b c))))))))

-- ---- with a not-a-number on either side it is one
sum-nan : (x y : Float) → (ne x x || ne y y) ≡ true → x ⊕ y ≡ nan
sum-nan x y h = elim (cases (ne x x)) [
  | inl p ↦ ap (λ (z : Float). z ⊕ y) (is-nan x p) ∙ none-add binary64 y
  | inr p ↦ ap (λ (z : Float). x ⊕ z) (is-nan y (sym (ap (λ (b : Bool). b || ne y y) p) ∙ h)) ∙ add_none binary64 x
]

first : (b : Bool) (x y : Float) → b ≡ true → cond b x y ≡ x
first b x y h = ap (λ (c : Bool). cond c x y) h

pub atan2-nan : (y x : Float) → (ne x x || ne y y) ≡ true → atan2 y x ≡ nan
unfolding atan2
atan2-nan y x h = first (ne x x || ne y y) (x ⊕ y) _ h ∙ sum-nan x y h
