-- A round of `from_ecef` gives a number, from one to the next, for a point whose coordinates are finite and not all 0: the x that atan2 takes is a
-- number where the distance p from the axis is finite and above 0; it stays the infinity where p is, and 0 where p is 0, at a pole. Assumes nothing.
use Rattle.std.proofs.Common.{◌≡◌, ℕ, zero, suc, ◌+◌, ◌*◌, ◌<◌, Bool, true, false, cond, not, ◌&&◌, ◌||◌, T, eqb, ◌⊎◌, List, [], ◌∷◌, sym, refl, ap, ◌∙◌, subst, inl, inr, true≢false, lt_irrefl, zero-lt-suc, mul-pos, zero-mul, arith, eqb→eq, eqb-true}
use mathlib.Core.Bool.{beq}
use lib.Ieee.{Float, nan, inf, fin, binary64, up, down, round, neg, add, sub, mul, div, le, lt, eq, ne, is_nan, fits, of_int, to_unsigned, of_bits}
use lib.Ieee.{to_bits}
use lib.Ieee.Bits.{is_true, is_false}
use lib.Ieee.Fits.{up_pos, and_i, and_l, and_r}
use lib.Ieee.Positive.{positive, above, above_of_le, positive-finite}
use lib.Ieee.Scale.{finite}
use Rattle.binary64.specs.Steps.{◌⊕◌, ◌⊖◌, ◌⊗◌, ◌⊘◌, #, decimal, nought, one, abs}
use Rattle.binary64.specs.Root.{root}
use Rattle.binary64.proofs.Units.{Is, le-trans-is}
use Rattle.binary64.proofs.Interval.{In}
use Rattle.binary64.proofs.Runs.{Step, lit, plus, minus, times, range, check, check_sound}
use Rattle.binary64.proofs.Order.{fails, lt→le, weak, abs_is, in-abs}
use Rattle.binary64.proofs.Quotient.{ratio-in}
use Rattle.binary64.proofs.RootBounds.{roots, root_in}
use Rattle.binary64.proofs.Numbers.{Num, finite-num, add-num, sub-num, num-sub, mul-num, div-num, num-div}
use Rattle.libm.specs.Words.{high, negative, signed, switch}
use Rattle.libm.specs.Kernels.{k_sin, k_cos, qx}
use Rattle.libm.specs.RemPio2.{npio2_hw, lost, split, stage, medium, rem_pio2}
use Rattle.libm.specs.Trig.{limit, quadrant, sin, cos, sincos}
use Rattle.libm.specs.Atan.{pi, tiny, signs, quarter, x_inf, pi-o-2, atan, atan2}
use Rattle.libm.specs.Hypotenuse.{scaled, hypot}
use Rattle.libm.proofs.KernelBounds.{Unit-in}
use Rattle.libm.proofs.ArcBounds.{arc2, neither, zero_in, atan2-in}
use Rattle.libm.proofs.LengthBounds.{hypot-long}
use Rattle.libm.proofs.HighWords.{high-finite, at_most, zero-or-least}
use Rattle.libm.proofs.Meaning.{sin-in, cos-in}
use Rattle.geo.specs.Geo.{A, F, E2, to_degrees, prime_vertical, height, bowring, bowring_to}

-- ---- the radius of curvature
abbrev squared-steps : List Step
squared-steps = lit E2 ∷ times 0 1 ∷ times 0 2 ∷ lit one ∷ minus 0 1 ∷ []

abbrev least : Float
least = decimal 99 2

abbrev most : Float
most = decimal 101 2

squared-passes : T (check least most squared-steps (range (neg one) one ∷ []))
unfolding E2 F of_bits round neg add sub mul div le fits
squared-passes = tt

roots-pass : T (roots least most least most)
unfolding round
roots-pass = tt

abbrev pub short : Float
short = decimal 6000000 0

abbrev pub long : Float
long = decimal 7000000 0

pub prime-in : (s : Float) → Unit-in s → In binary64 short long (prime_vertical s)
unfolding prime_vertical A E2 F round div le fits
prime-in s i =
    let x = check_sound least most squared-steps (range (neg one) one ∷ []) (s ∷ []) (i, tt) squared-passes in
    let r = root_in least most least most _ (tt, tt) (tt, tt) roots-pass x in
    let a = check_sound A A (lit A ∷ []) [] [] tt tt in
    weak short long (A ⊘ most) (A ⊘ least) _ (tt, tt) (tt, tt) tt tt (ratio-in A A A least most _ a r tt tt tt tt)

-- ---- small things
pick : (G : Float → Type 0) (b : Bool) (x y : Float) → (b ≡ true → G x) → (b ≡ false → G y) → G (cond b x y)
pick G true x y h k = h refl
pick G false x y h k = k refl

above-positive : (v : Float) → T (above v) → T (finite v) → T (positive v)
above-positive nan a f = absurd f
above-positive (inf s) a f = absurd f
above-positive (fin true m e) a f = absurd a
above-positive (fin false m e) a f = a

positive-abs : (v : Float) → T (positive v) → T (positive (abs v))
unfolding abs
positive-abs nan a = absurd a
positive-abs (inf s) a = absurd a
positive-abs (fin true m e) a = absurd a
positive-abs (fin false m e) a = a

abs-num : (v : Float) → T (finite v) → Num (abs v)
unfolding abs is_nan
abs-num nan f = absurd f
abs-num (inf s) f = absurd f
abs-num (fin s m e) f = tt

-- what is no less than a value above 0
over-positive : (c v : Float) → T (positive c) → Is binary64 v → T (le c v) → T (positive v)
over-positive c v p q l = above-positive v (above_of_le c v p l) q.1

-- a zero of either sign
abbrev pub Zero : Float → Type 0
Zero v = (v ≡ nought) ⊎ (v ≡ neg nought)

zero_of : (v : Float) → Is binary64 v → abs v ≡ nought → Zero v
unfolding abs neg
zero_of nan p h = absurd p.1
zero_of (inf s) p h = absurd p.1
zero_of (fin false m e) p h = inl h
zero_of (fin true m e) p h = inr (ap neg h)

-- ---- in the plane of the equator the latitude is 0 or ±pi, and its cosine 1 or -1
abbrev Level : Float → Type 0
Level v = lt (decimal 1 9) (abs (cos v)) ≡ true

level-switch : (m : ℕ) (z : Float) → Level z → Level (switch m z z (pi ⊕ tiny) (neg pi ⊖ tiny))
unfolding switch cos quadrant k_sin k_cos qx rem_pio2 medium npio2_hw lost split stage high abs neg add sub mul lt le of_int to_unsigned round of_bits to_bits
level-switch m z h = pick Level (eqb m 0) _ _ (λ _. h)
    (λ _. pick Level (eqb m 1) _ _ (λ _. h) (λ _. pick Level (eqb m 2) _ _ (λ _. refl) (λ _. refl)))

level : (z x : Float) → Zero z → Num x → Level (atan2 z x)
unfolding atan2 atan cos k_cos high abs neg lt eq is_nan round of_bits to_bits
level z x (inl e) k =
    subst (λ (v : Float). Level (atan2 v x)) (sym e)
    (pick Level (ne x x || ne nought nought) _ _ (λ h. absurd (neither x nought k tt h))
    (λ _. pick Level (eq x one) _ _ (λ _. refl) (λ _. level-switch (signs nought x) nought refl)))
level z x (inr e) k =
    subst (λ (v : Float). Level (atan2 v x)) (sym e)
    (pick Level (ne x x || ne (neg nought) (neg nought)) _ _ (λ h. absurd (neither x (neg nought) k tt h))
    (λ _. pick Level (eq x one) _ _ (λ _. refl) (λ _. level-switch (signs (neg nought) x) (neg nought) refl)))

-- ---- p finite and above 0
less-passes : T (check nought long (lit (one ⊖ E2) ∷ times 1 0 ∷ []) (range short long ∷ []))
unfolding E2 F of_bits round neg add sub mul div le fits
less-passes = tt

part-passes : T (check (decimal 40000 0) (decimal 47000 0) (lit E2 ∷ times 0 1 ∷ []) (range short long ∷ []))
unfolding E2 F round sub mul div le fits of_bits
part-passes = tt

pub arc-limit : (v : Float) → In binary64 (neg arc2) arc2 v → In binary64 (neg limit) limit v
unfolding of_bits round neg le fits
arc-limit v i = weak (neg limit) limit (neg arc2) arc2 v (tt, tt) (tt, tt) tt tt i

module _ (p z : Float) (P : T (positive p)) (q : Is binary64 z) where
  height-number : (x s c n : Float) → Num x → c ≡ cos (atan2 z x) → Unit-in s → Unit-in c → In binary64 short long n → Num (height p z s c n)
  unfolding height of_bits round
  height-number x s c n k e i j r =
      pick Num (lt (decimal 1 9) (abs c)) (p ⊘ c ⊖ n) (abs z ⊘ abs s ⊖ n ⊗ (one ⊖ E2))
      (λ h. num-sub binary64 (p ⊘ c) n
      (num-div binary64 p c (finite-num p (positive-finite p P))
      (over-positive (decimal 1 9) (abs c) tt (abs_is c j.is) (lt→le (decimal 1 9) (abs c) h))) r.is.1)
      (λ h. elim (zero-or-least z q) [
        | inl d ↦ absurd (true≢false (sym (level z x (zero_of z q d) k) ∙ ap (λ (v : Float). lt (decimal 1 9) (abs v)) (sym e) ∙ h))
        | inr o ↦
            num-sub binary64 (abs z ⊘ abs s) (n ⊗ (one ⊖ E2))
            (div-num binary64 (abs z) (abs s) (positive-abs (abs z) (over-positive (# 1) (abs z) tt (abs_is z q) o)) (abs-num s i.is.1))
            (check_sound nought long (lit (one ⊖ E2) ∷ times 1 0 ∷ []) (range short long ∷ []) (n ∷ []) (r, tt) less-passes).is.1
      ])

  next-number : (x : Float) → Num x → Num (bowring p z (atan2 z x)).x
  unfolding bowring sincos of_bits round
  next-number x k =
      let lat = atan2 z x in
      let i = arc-limit lat (atan2-in z x q.0 (finite-num z q.1) k) in
      let s = sin-in lat i in
      let n = prime_vertical (sin lat) in
      let r = prime-in (sin lat) s in
      let h = height p z (sin lat) (cos lat) n in
      let e = check_sound (decimal 40000 0) (decimal 47000 0) (lit E2 ∷ times 0 1 ∷ []) (range short long ∷ []) (n ∷ []) (r, tt) part-passes in
      let sum = add-num binary64 n h r.is.1 (height-number x (sin lat) (cos lat) n k refl s (cos-in lat i) r) in
      let ratio = div-num binary64 (E2 ⊗ n) (n ⊕ h) (positive-abs (E2 ⊗ n) (over-positive (decimal 40000 0) (E2 ⊗ n) tt e.is e.least)) sum in
      mul-num binary64 p (one ⊖ E2 ⊗ n ⊘ (n ⊕ h)) (positive-abs p P) (sub-num binary64 one (E2 ⊗ n ⊘ (n ⊕ h)) tt ratio)

  off-axis : (k : ℕ) → Num (bowring_to p z k).x
  unfolding bowring_to E2 F of_bits round sub add neg mul div is_nan
  off-axis zero = mul-num binary64 p (one ⊖ E2) (positive-abs p P) tt
  off-axis (suc k) = next-number (bowring_to p z k).x (off-axis k)

-- ---- p infinite: the latitude is 0
nonzero : (z : Float) → T (positive (abs z)) → eq z nought ≡ false
unfolding abs eq of_bits
nonzero nan h = absurd h
nonzero (inf s) h = absurd h
nonzero (fin s zero e) h = absurd h
nonzero (fin s (suc m) e) h =
    let a = suc m * up e * 1 in
    let b = 0 * 1 * down e in
    is_false _ (not_first (eqb a b) (beq s false || eqb a 0)
    (λ t. none a (mul-pos (mul-pos (zero-lt-suc m) (up_pos e)) (zero-lt-suc 0)) (eqb→eq a b t ∙ zero-mul (down e))))
  where
    not_first : (a b : Bool) → (T a → ⊥) → T (not (a && b))
    not_first true b h = absurd (h tt)
    not_first false b h = tt

    none : (a : ℕ) → 0 < a → a ≡ 0 → ⊥
    none a h e = omega arith

signs-flat : (b : Bool) (a z p q : Float) → Zero a → Zero z → Zero (switch (2 * 0 + cond b 1 0) a z p q)
unfolding switch
signs-flat true a z p q h k = k
signs-flat false a z p q h k = h

flat : (z : Float) → Is binary64 z → Zero (atan2 z (inf false))
unfolding atan2 signs x_inf high negative switch mul neg eq ne is_nan round of_bits to_bits
flat z q = elim (zero-or-least z q) [
  | inl e ↦ elim (zero_of z q e) [
    | inl d ↦ subst (λ (v : Float). Zero (atan2 v (inf false))) (sym d) (inl refl)
    | inr d ↦ subst (λ (v : Float). Zero (atan2 v (inf false))) (sym d) (inr refl)
  ]
  | inr o ↦
      pick Zero (ne (inf false) (inf false) || ne z z) _ _ (λ h. absurd (neither (inf false) z tt (finite-num z q.1) h))
      (λ _. pick Zero (eq z nought) _ _ (λ h. absurd (true≢false (sym h ∙ nonzero z (over-positive (# 1) (abs z) tt (abs_is z q) o))))
      (λ _. pick Zero (eqb (high z) 0x7ff00000) _ _
      (λ h. absurd (lt_irrefl 0x7ff00000 (subst (λ (k : ℕ). k < 0x7ff00000) (eqb-true (high z) 0x7ff00000 h) (high-finite z q))))
      (λ _. signs-flat (negative z) nought (neg one ⊗ nought) _ _ (inl refl) (inr refl))))
]

next-infinite : (z lat : Float) → Zero lat → (bowring (inf false) z lat).x ≡ inf false
unfolding bowring height prime_vertical A E2 F sincos sin cos k_sin k_cos high root abs neg add sub mul div lt round of_bits to_bits
next-infinite z lat (inl e) = ap (λ (v : Float). (bowring (inf false) z v).x) e
next-infinite z lat (inr e) = ap (λ (v : Float). (bowring (inf false) z v).x) e

infinite : (z : Float) → Is binary64 z → (k : ℕ) → (bowring_to (inf false) z k).x ≡ inf false
unfolding bowring_to E2 F of_bits round sub add neg mul div
infinite z q zero = refl
infinite z q (suc k) = ap (λ (v : Float). (bowring (inf false) z (atan2 z v)).x) (infinite z q k) ∙ next-infinite z (atan2 z (inf false)) (flat z q)

-- ---- p = 0, and z is not: the latitude is that of a pole
abbrev Pole : Float → Type 0
Pole v = (v ≡ pi-o-2 ⊕ tiny) ⊎ (v ≡ neg pi-o-2 ⊖ tiny)

pole : (z x : Float) → Num z → T (positive (abs z)) → Zero x → Pole (atan2 z x)
unfolding atan2 quarter neg eq ne is_nan of_bits
pole z x n p (inl e) =
    subst (λ (v : Float). Pole (atan2 z v)) (sym e)
    (pick Pole (ne nought nought || ne z z) _ _ (λ h. absurd (neither nought z tt n h))
    (λ _. pick Pole (eq z nought) _ _ (λ h. absurd (true≢false (sym h ∙ nonzero z p)))
    (λ _. pick Pole (negative z) _ _ (λ _. inr refl) (λ _. inl refl))))
pole z x n p (inr e) =
    subst (λ (v : Float). Pole (atan2 z v)) (sym e)
    (pick Pole (ne (neg nought) (neg nought) || ne z z) _ _ (λ h. absurd (neither (neg nought) z tt n h))
    (λ _. pick Pole (eq z nought) _ _ (λ h. absurd (true≢false (sym h ∙ nonzero z p)))
    (λ _. pick Pole (negative z) _ _ (λ _. inr refl) (λ _. inl refl))))

-- the radius of curvature there, and what a round makes of |z|
abbrev at_pole : Float
at_pole = # 0x4158699A680C6D5A

abbrev along : Float → Float
along v = nought ⊗ (one ⊖ E2 ⊗ at_pole ⊘ (at_pole ⊕ (v ⊘ one ⊖ at_pole ⊗ (one ⊖ E2))))

next-pole : (z lat : Float) → Pole lat → (bowring nought z lat).x ≡ along (abs z)
unfolding bowring height prime_vertical A E2 F sincos sin cos quadrant k_sin k_cos qx rem_pio2 split high negative signed switch root abs neg add sub mul
    div lt le round of_bits to_bits
next-pole z lat (inl e) = ap (λ (v : Float). (bowring nought z v).x) e
next-pole z lat (inr e) = ap (λ (v : Float). (bowring nought z v).x) e

abbrev greatest : Float
greatest = # 0x7FEFFFFFFFFFFFFF

abbrev some-metres : Float
some-metres = decimal 42000 0

height-passes : T (check some-metres greatest (lit (at_pole ⊗ (one ⊖ E2)) ∷ minus 1 0 ∷ lit at_pole ∷ plus 0 1 ∷ []) (range (# 1) greatest ∷ []))
unfolding E2 F of_bits round neg add sub mul div le fits
height-passes = tt

none_passes : T (check nought nought (lit one ∷ minus 0 1 ∷ lit nought ∷ times 0 1 ∷ [])
    (range (E2 ⊗ at_pole ⊘ greatest) (E2 ⊗ at_pole ⊘ some-metres) ∷ []))
unfolding E2 F of_bits round neg add sub mul div le fits
none_passes = tt

along-in : (v : Float) → In binary64 (# 1) greatest v → In binary64 nought nought (along v)
unfolding E2 F of_bits round neg add sub mul div le fits
along-in v i =
    let o = check_sound one one (lit one ∷ []) [] [] tt tt in
    let q = ratio-in (# 1) greatest v one one one i o tt tt tt tt in
    let h = check_sound some-metres greatest (lit (at_pole ⊗ (one ⊖ E2)) ∷ minus 1 0 ∷ lit at_pole ∷ plus 0 1 ∷ []) (range (# 1) greatest ∷ [])
    ((v ⊘ one) ∷ []) (q, tt) height-passes in
    let e = check_sound (E2 ⊗ at_pole) (E2 ⊗ at_pole) (lit (E2 ⊗ at_pole) ∷ []) [] [] tt tt in
    let r = ratio-in (E2 ⊗ at_pole) (E2 ⊗ at_pole) (E2 ⊗ at_pole) some-metres greatest _ e h tt tt tt tt in
    check_sound nought nought (lit one ∷ minus 0 1 ∷ lit nought ∷ times 0 1 ∷ []) (range (E2 ⊗ at_pole ⊘ greatest) (E2 ⊗ at_pole ⊘ some-metres) ∷ [])
    (_ ∷ []) (r, tt) none_passes

zero-in-of : (v : Float) → In binary64 nought nought v → Zero v
unfolding of_bits neg le fits
zero-in-of v i = elim (zero-or-least v i.is) [
  | inl e ↦ zero_of v i.is e
  | inr o ↦
      let w = in-abs v nought (weak (neg nought) nought nought nought v (tt, tt) (tt, tt) tt tt i) in
      absurd (fails (le (# 1) nought) refl (le-trans-is binary64 (# 1) (abs v) nought (tt, tt) (abs_is v i.is) (tt, tt) o w))
]

on-axis : (z : Float) → Is binary64 z → T (le (# 1) (abs z)) → (k : ℕ) → Zero (bowring_to nought z k).x
unfolding bowring_to E2 F of_bits round sub add neg mul div fits
on-axis z q o zero = inl refl
on-axis z q o (suc k) =
    let x = (bowring_to nought z k).x in
    let i : In binary64 (# 1) greatest (abs z) = record { lo-is = (tt, tt); hi-is = (tt, tt); is = abs_is z q; least = o; most = at_most z q } in
    zero-in-of _
    (subst (In binary64 nought nought)
    (sym (next-pole z (atan2 z x) (pole z x (finite-num z q.1) (over-positive (# 1) (abs z) tt (abs_is z q) o) (on-axis z q o k))))
    (along-in (abs z) i))

-- ---- every point but the centre
zero_number : (v : Float) → Zero v → Num v
unfolding is_nan neg of_bits
zero_number v (inl e) = subst Num (sym e) tt
zero_number v (inr e) = subst Num (sym e) tt

zero-eq : (v : Float) → Is binary64 v → abs v ≡ nought → T (eq v nought)
unfolding eq neg of_bits
zero-eq v p h = elim (zero_of v p h) [
  | inl e ↦ subst (λ (z : Float). T (eq z nought)) (sym e) tt
  | inr e ↦ subst (λ (z : Float). T (eq z nought)) (sym e) tt
]

far-number : (p z : Float) → T (above p) → Is binary64 z → (k : ℕ) → Num (bowring_to p z k).x
unfolding is_nan
far-number nan z a q k = absurd a
far-number (inf true) z a q k = absurd a
far-number (inf false) z a q k = subst Num (sym (infinite z q k)) tt
far-number (fin true m e) z a q k = absurd a
far-number (fin false m e) z a q k = off-axis (fin false m e) z a q k

pub rounds-number : (x y z : Float) → Is binary64 x → Is binary64 y → Is binary64 z → (T (eq x nought && (eq y nought && eq z nought)) → ⊥) → (k : ℕ)
    → Num (bowring_to (hypot x y) z k).x
rounds-number x y z p q r n k = elim (hypot-long x y p q) [
  | inl a ↦ far-number (hypot x y) z a r k
  | inr a ↦
      subst (λ (v : Float). Num (bowring_to v z k).x) (sym a.2)
      (elim (zero-or-least z r) [
        | inl e ↦
            absurd (n (and_i (eq x nought) (eq y nought && eq z nought) (zero-eq x p a.0)
            (and_i (eq y nought) (eq z nought) (zero-eq y q a.1) (zero-eq z r e))))
        | inr o ↦ zero_number _ (on-axis z r o k)
      ])
]

-- ---- the centre: the first round divides by 0, and multiplies 0 by an infinity
pub zero_test : (v : Float) → T (fits binary64 v) → T (eq v nought) → Zero v
zero_test v f t = zero-in-of v (zero_in v f (is_true _ t))

pub no_length : (x y : Float) → Zero x → Zero y → hypot x y ≡ nought
unfolding hypot scaled high abs neg sub add mul lt eq of_bits to_bits
no_length x y (inl e) (inl d) = ap (λ (v : Float). hypot v y) e ∙ ap (hypot nought) d
no_length x y (inl e) (inr d) = ap (λ (v : Float). hypot v y) e ∙ ap (hypot nought) d
no_length x y (inr e) (inl d) = ap (λ (v : Float). hypot v y) e ∙ ap (hypot (neg nought)) d
no_length x y (inr e) (inr d) = ap (λ (v : Float). hypot v y) e ∙ ap (hypot (neg nought)) d

no-latitude : (z : Float) → Zero z → to_degrees (atan2 z (bowring_to nought z 6).x) ≡ nan
unfolding to_degrees bowring_to bowring height prime_vertical A E2 F sincos sin cos k_sin k_cos atan2 signs high negative switch root abs neg add sub mul
    div lt le eq ne round of_bits to_bits
no-latitude z (inl e) = ap (λ (v : Float). to_degrees (atan2 v (bowring_to nought v 6).x)) e
no-latitude z (inr e) = ap (λ (v : Float). to_degrees (atan2 v (bowring_to nought v 6).x)) e

pub centre : (x y z : Float) → T (fits binary64 x) → T (fits binary64 y) → T (fits binary64 z) → T (eq x nought && (eq y nought && eq z nought))
    → to_degrees (atan2 z (bowring_to (hypot x y) z 6).x) ≡ nan
centre x y z f g h t =
    let u = and_l (eq x nought) (eq y nought && eq z nought) t in
    let v = and_r (eq x nought) (eq y nought && eq z nought) t in
    ap (λ (p : Float). to_degrees (atan2 z (bowring_to p z 6).x))
    (no_length x y (zero_test x f u) (zero_test y g (and_l (eq y nought) (eq z nought) v)))
    ∙ no-latitude z (zero_test z h (and_r (eq y nought) (eq z nought) v))
