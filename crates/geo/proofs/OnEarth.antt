-- A place whose height lies within the solve's limits has a latitude within ±90 degrees and a longitude within ±180: the x that its last round hands
-- to atan2 has its sign clear. Assumes nothing.
use Rattle.std.proofs.Common.{◌≡◌, ℕ, zero, suc, ◌*◌, Bool, true, false, cond, T, List, [], ◌∷◌, sym, refl, subst, inl, inr, arith, ne_eqb}
use lib.Ieee.{Float, nan, inf, fin, binary64, up, down, round, neg, add, sub, mul, div, le, fits, of_bits}
use lib.Ieee.Bits.{is_true}
use lib.Ieee.Fits.{mul-fits}
use lib.Ieee.Positive.{positive, between, above}
use Rattle.binary64.specs.Steps.{◌⊕◌, ◌⊖◌, ◌⊗◌, ◌⊘◌, decimal, nought, one, abs}
use Rattle.binary64.specs.Within.{Within}
use Rattle.binary64.proofs.Clear.{clear}
use Rattle.binary64.proofs.Units.{Is}
use Rattle.binary64.proofs.Interval.{In, finite-between}
use Rattle.binary64.proofs.Runs.{Step, lit, plus, minus, times, range, check, check_sound}
use Rattle.binary64.proofs.Order.{in_within, is-finite}
use Rattle.binary64.proofs.Quotient.{ratio-in}
use Rattle.binary64.proofs.Numbers.{Num, finite-num}
use Rattle.binary64.proofs.Finite.{round-clear}
use Rattle.libm.specs.Words.{negative}
use Rattle.libm.specs.Trig.{sin, sincos}
use Rattle.libm.specs.Atan.{pi, atan2}
use Rattle.libm.specs.Hypotenuse.{hypot}
use Rattle.libm.proofs.Unsigned.{not_negative}
use Rattle.libm.proofs.ArcBounds.{atan2-in}
use Rattle.libm.proofs.Arcs.{q, atan2-half, atan2-quarter}
use Rattle.libm.proofs.LengthBounds.{hypot-long}
use Rattle.libm.proofs.Meaning.{sin-in}
use Rattle.geo.specs.Geo.{F, E2, to_degrees, prime_vertical, bowring, bowring_to, from_ecef}
use Rattle.geo.specs.Meaning.{IsFinite}
use Rattle.geo.proofs.Places.{short, long, prime-in, arc-limit, rounds-number}
use Rattle.geo.proofs.Centre.{elsewhere}

-- ---- the share of the distance from the axis, at a height within limits
abbrev low : Float
low = neg (decimal 1500 0)

abbrev top : Float
top = decimal 25000 0

abbrev sl : Float
sl = decimal 5000000 0

abbrev sh : Float
sh = decimal 8000000 0

abbrev el : Float
el = decimal 40000 0

abbrev eh : Float
eh = decimal 47000 0

sum-passes : T (check sl sh (plus 0 1 ∷ []) (range short long ∷ range low top ∷ []))
unfolding round neg add le fits
sum-passes = tt

part-passes : T (check el eh (lit E2 ∷ times 0 1 ∷ []) (range short long ∷ []))
unfolding E2 F round sub mul div le fits of_bits
part-passes = tt

share-passes : T (check (decimal 98 2) one (lit one ∷ minus 0 1 ∷ []) (range (el ⊘ sh) (eh ⊘ sl) ∷ []))
unfolding round sub add neg div le fits of_bits
share-passes = tt

share_in : (n h : Float) → In binary64 short long n → In binary64 low top h → In binary64 (decimal 98 2) one (one ⊖ E2 ⊗ n ⊘ (n ⊕ h))
unfolding round div le fits
share_in n h i j =
    let s = check_sound sl sh (plus 0 1 ∷ []) (range short long ∷ range low top ∷ []) (n ∷ h ∷ []) (i, (j, tt)) sum-passes in
    let e = check_sound el eh (lit E2 ∷ times 0 1 ∷ []) (range short long ∷ []) (n ∷ []) (i, tt) part-passes in
    check_sound (decimal 98 2) one (lit one ∷ minus 0 1 ∷ []) (range (el ⊘ sh) (eh ⊘ sl) ∷ []) ((E2 ⊗ n ⊘ (n ⊕ h)) ∷ [])
    (ratio-in el eh (E2 ⊗ n) sl sh (n ⊕ h) e s tt tt tt tt, tt) share-passes

share-positive : (w : Float) → In binary64 (decimal 98 2) one w → T (positive w)
unfolding round of_bits
share-positive w i = between (decimal 98 2) w one tt tt i.least i.most

-- ---- signs
mul-clear : (x y : Float) → T (clear x) → T (positive y) → T (clear (x ⊗ y))
unfolding mul
mul-clear nan y h k = absurd h
mul-clear (inf true) y h k = absurd h
mul-clear (inf false) nan h k = absurd k
mul-clear (inf false) (inf t) h k = absurd k
mul-clear (inf false) (fin true n d) h k = absurd k
mul-clear (inf false) (fin false zero d) h k = absurd k
mul-clear (inf false) (fin false (suc n) d) h k =
    subst (λ (b : Bool). T (clear (cond b nan (inf false)))) (sym (ne_eqb (suc n) 0 (λ (e : suc n ≡ 0). omega arith))) tt
mul-clear (fin true m e) y h k = absurd h
mul-clear (fin false m e) nan h k = absurd k
mul-clear (fin false m e) (inf t) h k = absurd k
mul-clear (fin false m e) (fin true n d) h k = absurd k
mul-clear (fin false m e) (fin false n d) h k = round-clear (m * up e * (n * up d)) (down e * down d)

clear-own : (v : Float) → T (clear v) → abs v ≡ v
unfolding abs
clear-own nan h = absurd h
clear-own (inf true) h = absurd h
clear-own (inf false) h = refl
clear-own (fin true m e) h = absurd h
clear-own (fin false m e) h = refl

above-clear : (v : Float) → T (above v) → T (clear v)
above-clear nan h = h
above-clear (inf s) h = h
above-clear (fin true m e) h = absurd h
above-clear (fin false m e) h = tt

nought-clear : T (clear nought)
unfolding of_bits
nought-clear = tt

hypot-clear : (x y : Float) → Is binary64 x → Is binary64 y → T (clear (hypot x y))
hypot-clear x y p r = elim (hypot-long x y p r) [
  | inl a ↦ above-clear (hypot x y) a
  | inr a ↦ subst (λ (v : Float). T (clear v)) (sym a.2) nought-clear
]

-- ---- degrees
abbrev degree-steps : List Step
degree-steps = lit (decimal 57295779513082320876798154814105 30) ∷ times 1 0 ∷ []

quarter-passes : T (check (neg (decimal 90 0)) (decimal 90 0) degree-steps (range (neg q) q ∷ []))
unfolding of_bits round neg mul le fits
quarter-passes = tt

half-passes
    : T (check (neg (decimal 180 0)) (decimal 180 0) degree-steps (range (neg pi) pi ∷ []))
unfolding of_bits round neg mul le fits
half-passes = tt

quarter-degrees : (v : Float) → In binary64 (neg q) q v → Within (decimal 90 0) (to_degrees v)
unfolding to_degrees
quarter-degrees v i = in_within _ (decimal 90 0)
    (check_sound (neg (decimal 90 0)) (decimal 90 0) degree-steps (range (neg q) q ∷ []) (v ∷ [])
    (i, tt) quarter-passes)

half-degrees : (v : Float) → In binary64 (neg pi) pi v → Within (decimal 180 0) (to_degrees v)
unfolding to_degrees
half-degrees v i = in_within _ (decimal 180 0)
    (check_sound (neg (decimal 180 0)) (decimal 180 0) degree-steps (range (neg pi) pi ∷ []) (v ∷ [])
    (i, tt) half-passes)

-- ---- the place
round-fine : (x y z : Float) → Is binary64 x → Is binary64 y → Is binary64 z → (X : Float) → Num X
    → In binary64 low top (bowring (hypot x y) z (atan2 z X)).height → negative (bowring (hypot x y) z (atan2 z X)).x ≡ false
unfolding bowring sincos
round-fine x y z f g h X k i =
    let p = hypot x y in
    let lat = atan2 z X in
    let n = prime_vertical (sin lat) in
    let r = prime-in (sin lat) (sin-in lat (arc-limit lat (atan2-in z X h.0 (finite-num z h.1) k))) in
    let w = one ⊖ E2 ⊗ n ⊘ (n ⊕ (bowring p z lat).height) in
    let c = mul-clear p w (hypot-clear x y f g) (share-positive w (share_in n (bowring p z lat).height r i)) in
    not_negative (p ⊗ w) (is_true _ (mul-fits binary64 p w)) (clear-own (p ⊗ w) c)

module _ (x y z : Float) (f : IsFinite x) (g : IsFinite y) (h : IsFinite z) where
  is : (v : Float) → IsFinite v → Is binary64 v
  is v i = (i.0, is-finite v i.1)

  low-is : Is binary64 low
  unfolding round neg fits
  low-is = (tt, tt)

  top-is : Is binary64 top
  unfolding round fits
  top-is = (tt, tt)

  pub on-earth
      : T (fits binary64 (from_ecef (x ∷ y ∷ z ∷ [])).height_m) → T (le low (from_ecef (x ∷ y ∷ z ∷ [])).height_m)
      → T (le (from_ecef (x ∷ y ∷ z ∷ [])).height_m top)
      → Within (decimal 90 0) (from_ecef (x ∷ y ∷ z ∷ [])).lat_deg × Within (decimal 180 0) (from_ecef (x ∷ y ∷ z ∷ [])).lon_deg
  unfolding from_ecef bowring_to
  on-earth e l m =
      let high = (from_ecef (x ∷ y ∷ z ∷ [])).height_m in
      let t = finite-between low high top low-is.1 top-is.1 l m in
      let away = elsewhere x y z f g h t in
      let number : (v : Float) → IsFinite v → Num v = λ v i. finite-num v (is-finite v i.1) in
      let p = hypot x y in
      let X = (bowring_to p z 5).x in
      let k : (j : ℕ) → Num (bowring_to p z j).x = rounds-number x y z (is x f) (is y g) (is z h) away in
      let i : In binary64 low top high = record { lo-is = low-is; hi-is = top-is; is = (e, t); least = l; most = m } in (
        quarter-degrees (atan2 z (bowring_to p z 6).x)
            (atan2-quarter z (bowring_to p z 6).x h.0 (number z h) (k 6) (round-fine x y z (is x f) (is y g) (is z h) X (k 5) i)),
        half-degrees (atan2 y x) (atan2-half y x g.0 (number y g) (number x f)),
      )
