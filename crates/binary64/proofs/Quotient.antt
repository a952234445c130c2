-- A quotient as the rounding of its exact value in units. So one of values above 0 grows with the first and falls with the second (`ratio-in`), and
-- what lies from -1 to 1, divided by 1 or more, lies there too (`quotient-in`). Assumes nothing.
use mathlib.Core.Path.{◌≡◌, refl, sym, ap, ◌∙◌, subst}
use mathlib.Core.Logic.{inl, inr}
use Prim.Native.Nat.{ℕ, zero, suc, ◌+◌, ◌-◌, ◌*◌, ◌^◌, ◌≤◌, ◌<◌, zero-le}
use native.Mathlib.Nat.{lt_irrefl, lt_of_lt_of_le, zero-lt-suc, zero-mul, mul-one, one-mul, mul_comm, mul_assoc, mul-pos, mul-le-mul}
use native.Mathlib.Omega.{arith}
use mathlib.Core.Bool.{Bool, true, false, cond}
use borrow.Author.Tests.{ne_eqb}
use lib.IntN.{ℤ}
use lib.Dec.{T, eqb, ltb, ltb→lt}
use lib.Pow.{pow_pos}
use lib.Ieee.{Float, nan, inf, fin, Format, binary64, low, up, down, le, neg, div, round, unlike, of_bits}
use lib.Ieee.Fits.{up_pos, down_pos, div-fits}
use lib.Ieee.Order.{round_mono}
use lib.Ieee.Scale.{round_same, finite}
use Rattle.binary64.specs.Steps.{one}
use Rattle.binary64.proofs.Units.{Is, P, N, uo, in-units, low-enough, le→units}
use Rattle.binary64.proofs.Rounded.{Rnd, rnd-mono, round-neg, less-nothing}
use Rattle.binary64.proofs.Interval.{In, finite-between}
use Rattle.binary64.proofs.Own.{no_minus, more-units}

-- (m * up e / down e) / (n * up d / down d), in units
fraction : (f : Format) (s : Bool) (m : ℕ) (e : ℤ) (n : ℕ) (d : ℤ) → down e ≤ 2 ^ low f → down d ≤ 2 ^ low f → 0 < n → 0 < n * uo f d
    → round f s (m * up e * down d) (n * up d * down e) ≡ round f s (m * uo f e) (n * uo f d)
fraction f s m e n d E D z p =
    round_same f s (m * up e * down d) (n * up d * down e) (m * uo f e) (n * uo f d) (mul-pos (mul-pos z (up_pos d)) (down_pos e)) p
    (mul_assoc (m * up e) (down d) (n * uo f d)
    ∙ ap (λ (x : ℕ). m * up e * x) (mul_comm (down d) (n * uo f d) ∙ in-units f n d D ∙ mul_comm (n * up d) (2 ^ low f))
    ∙ sym (mul_assoc (m * up e) (2 ^ low f) (n * up d))
    ∙ ap (λ (x : ℕ). x * (n * up d)) (sym (in-units f m e E))
    ∙ mul_assoc (m * uo f e) (down e) (n * up d)
    ∙ ap (λ (x : ℕ). m * uo f e * x) (mul_comm (down e) (n * up d)))

div_is : (f : Format) (s : Bool) (m : ℕ) (e : ℤ) (n : ℕ) (d : ℤ)
    → div f (fin s m e) (fin false (suc n) d) ≡ round f (unlike s false) (m * up e * down d) (suc n * up d * down e)
unfolding div
div_is f s m e n d = ap (λ (b : Bool). cond b (cond (eqb m 0) nan (inf (unlike s false)))
    (round f (unlike s false) (m * up e * down d) (suc n * up d * down e))) (ne_eqb (suc n) 0 (λ (h : suc n ≡ 0). omega arith))

div-rnd : (f : Format) (x y : Float) → Is f x → Is f y → 0 < P f y → Rnd f (div f x y) (P f x) (N f x) (P f y)
div-rnd f nan y p q h = absurd p.1
div-rnd f (inf s) y p q h = absurd p.1
div-rnd f (fin s m e) nan p q h = absurd q.1
div-rnd f (fin s m e) (inf t) p q h = absurd q.1
div-rnd f (fin s m e) (fin true n d) p q h = absurd (lt_irrefl 0 h)
div-rnd f (fin s m e) (fin false zero d) p q h = absurd (lt_irrefl 0 (subst (λ (z : ℕ). 0 < z) (zero-mul (uo f d)) h))
div-rnd f (fin false m e) (fin false (suc n) d) p q h =
    let D = low-enough f false (suc n) d q.0 in
    inl (
      zero-le,
      div_is f false m e n d ∙ fraction f false m e (suc n) d (low-enough f false m e p.0) D (zero-lt-suc n) h
          ∙ ap (λ (z : ℕ). round f false z (suc n * uo f d)) (less-nothing (m * uo f e)),
    )
div-rnd f (fin true m e) (fin false (suc n) d) p q h =
    let D = low-enough f false (suc n) d q.0 in
    inr (
      zero-le,
      div_is f true m e n d ∙ fraction f true m e (suc n) d (low-enough f true m e p.0) D (zero-lt-suc n) h
          ∙ ap (λ (z : ℕ). round f true z (suc n * uo f d)) (less-nothing (m * uo f e)),
    )

-- ---- of what is above 0
div-is-round : (x y : Float) → Is binary64 x → Is binary64 y → 0 < P binary64 x → 0 < P binary64 y
    → div binary64 x y ≡ round binary64 false (P binary64 x) (P binary64 y)
div-is-round x y p q h k = elim (div-rnd binary64 x y p q k) [
  | inl r ↦ r.1 ∙ ap (λ (z : ℕ). round binary64 false z (P binary64 y)) (less (P binary64 x) (N binary64 x) (no_minus x h))
  | inr r ↦ absurd (none (P binary64 x) (N binary64 x) h (no_minus x h) r.0)
]
  where
    less : (p n : ℕ) → n ≡ 0 → p - n ≡ p
    less p n z = omega arith

    none : (p n : ℕ) → 0 < p → n ≡ 0 → p ≤ n → ⊥
    none p n h z l = omega arith

-- grows with x and falls with y
div_mono : (x x' y y' : Float) → Is binary64 x → Is binary64 x' → Is binary64 y → Is binary64 y' → T (le x x') → T (le y y')
    → 0 < P binary64 x → 0 < P binary64 y → T (le (div binary64 x y') (div binary64 x' y))
div_mono x x' y y' p p' q q' h k X Y =
    let a = more-units x x' p p' h X in
    let b = more-units y y' q q' k Y in
    subst (λ (z : Float). T (le z (div binary64 x' y))) (sym (div-is-round x y' p q' X b.1))
    (subst (λ (z : Float). T (le (round binary64 false (P binary64 x) (P binary64 y')) z)) (sym (div-is-round x' y p' q a.1 Y))
    (round_mono binary64 (P binary64 x) (P binary64 y') (P binary64 x') (P binary64 y) b.1 Y (mul-le-mul a.0 b.0)))

pub ratio-in : (xl xh x yl yh y : Float) → In binary64 xl xh x → In binary64 yl yh y → T (ltb 0 (P binary64 xl)) → T (ltb 0 (P binary64 yl))
    → T (finite (div binary64 xl yh)) → T (finite (div binary64 xh yl)) → In binary64 (div binary64 xl yh) (div binary64 xh yl) (div binary64 x y)
ratio-in xl xh x yl yh y i j X Y f g =
    let A = ltb→lt 0 (P binary64 xl) X in
    let B = ltb→lt 0 (P binary64 yl) Y in
    let C = (more-units xl x i.lo-is i.is i.least A).1 in
    let D = (more-units yl y j.lo-is j.is j.least B).1 in
    let l = div_mono xl x y yh i.lo-is i.is j.is j.hi-is i.least j.most A D in
    let h = div_mono x xh yl y i.is i.hi-is j.lo-is j.is i.most j.least C B in
    record {
      lo-is = (div-fits binary64 xl yh, f);
      hi-is = (div-fits binary64 xh yl, g);
      is = (div-fits binary64 x y, finite-between (div binary64 xl yh) (div binary64 x y) (div binary64 xh yl) f g l h);
      least = l;
      most = h;
    }

-- ---- by 1 or more
one-round : one ≡ round binary64 false 1 1
unfolding of_bits round
one-round = refl

one-is : (c : ℕ) → 0 < c → one ≡ round binary64 false (c - 0) c
one-is c h = one-round ∙ round_same binary64 false 1 1 c c (zero-lt-suc 0) h (one-mul c ∙ sym (mul-one c))
    ∙ ap (λ (z : ℕ). round binary64 false z c) (less-nothing c)

-- 1 in units is 2 ^ low, whatever that is
one-units : (l : ℕ) × (0 < l) × (P binary64 one ≡ l) × (N binary64 one ≡ 0) × (P binary64 (neg one) ≡ 0) × (N binary64 (neg one) ≡ l)
unfolding of_bits neg
one-units = (1 * (2 ^ 0 * 2 ^ low binary64), mul-pos (zero-lt-suc 0) (mul-pos (zero-lt-suc 0) (pow_pos (low binary64))), refl, refl, refl, refl)

reach : (l o n y y' : ℕ) → o ≡ l → n ≡ 0 → o + y' ≤ y + n → l ≤ y
reach l o n y y' a b h = omega arith

above : (x x' l o n y : ℕ) → o ≡ l → n ≡ 0 → x + n ≤ o + x' → l ≤ y → x + 0 ≤ y + x'
above x x' l o n y a b h k = omega arith

under : (x x' l o n y : ℕ) → o ≡ 0 → n ≡ l → o + x' ≤ x + n → l ≤ y → 0 + x' ≤ x + y
under x x' l o n y a b h k = omega arith

pub quotient-in : (x y : Float) → In binary64 (neg one) one x → Is binary64 y → T (le one y) → In binary64 (neg one) one (div binary64 x y)
quotient-in x y i q h =
    let u = one-units in
    let l = u.0 in
    let Y = P binary64 y in
    let k : l ≤ Y = reach l (P binary64 one) (N binary64 one) Y (N binary64 y) u.2 u.3 (le→units binary64 one y i.hi-is q h) in
    let p : 0 < Y = lt_of_lt_of_le u.1 k in
    let z = div binary64 x y in
    let r = div-rnd binary64 x y i.is q p in
    let least : T (le (neg one) z) =
    rnd-mono binary64 (neg one) z 0 Y (P binary64 x) (N binary64 x) Y p (inr (zero-le, ap neg (one-is Y p) ∙ sym (round-neg binary64 (Y - 0) Y))) r
    (under (P binary64 x) (N binary64 x) l (P binary64 (neg one)) (N binary64 (neg one)) Y u.4 u.5
    (le→units binary64 (neg one) x i.lo-is i.is i.least) k) in
    let most : T (le z one) =
    rnd-mono binary64 z one (P binary64 x) (N binary64 x) Y 0 Y p r (inl (zero-le, one-is Y p))
    (above (P binary64 x) (N binary64 x) l (P binary64 one) (N binary64 one) Y u.2 u.3
    (le→units binary64 x one i.is i.hi-is i.most) k) in
    record {
      lo-is = i.lo-is;
      hi-is = i.hi-is;
      is = (div-fits binary64 x y, finite-between (neg one) z one i.lo-is.1 i.hi-is.1 least most);
      least = least;
      most = most;
    }
