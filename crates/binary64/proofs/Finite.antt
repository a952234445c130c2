-- What a finite result, or one within a limit, tells of the values that it was made of. Assumes nothing.
use mathlib.Core.Path.{◌≡◌, refl, sym, ap, subst, ◌∙◌}
use mathlib.Core.Bool.{Bool, true, false, not, cond, ◌&&◌, beq}
use mathlib.Core.Logic.{inl, inr}
use Prim.Native.Nat.{ℕ, zero, suc, ◌+◌, ◌-◌, ◌*◌, ◌/◌, ◌^◌, ◌≤◌, zero-le, compare}
use native.Mathlib.Nat.{le_trans, le_of_eq, zero-mul, mul-one}
use native.Mathlib.Omega.{arith}
use borrow.Author.Tests.{le-ltb}
use lib.Dec.{T, eqb, ltb, eqb→eq}
use lib.IntN.{ℤ}
use lib.Pow.{pow_pos}
use lib.Ieee.{Float, nan, inf, fin, Format, binary64, low, up, down, round, neg, sum, add, sub, mul, div, lt, le, eq, unlike, fits, of_bits}
use lib.Ieee.{size, nearest, units, odd, prec, emax}
use lib.Ieee.Fits.{and_l, mul-fits}
use lib.Ieee.Scale.{finite}
use Rattle.binary64.specs.Steps.{abs, nought}
use Rattle.binary64.specs.Root.{root, root_units, floor_root}
use Rattle.binary64.proofs.Units.{Is, P, N, le→units, test-of-le}
use Rattle.binary64.proofs.Rounded.{Sign, round-sign, neg-anti, rnd-mono, add-rnd}
use Rattle.binary64.proofs.Interval.{neg_is}
use Rattle.binary64.proofs.Order.{nlt→le, nought-is, cases, holds}
use Rattle.binary64.proofs.Less.{le-lt}
use Rattle.binary64.proofs.Clear.{clear, square-clear}

-- ---- a sum, a difference, a product: both sides are finite

-- either way a choice comes out, it is not finite
neither : (b : Bool) (x y : Float) → (T (finite x) → ⊥) → (T (finite y) → ⊥) → T (finite (cond b x y)) → ⊥
neither true x y p q h = p h
neither false x y p q h = q h

pub add-finite : (f : Format) (x y : Float) → T (finite (add f x y)) → T (finite x) × T (finite y)
unfolding add
add-finite f nan y h = absurd h
add-finite f (inf s) nan h = absurd h
add-finite f (inf s) (inf t) h = absurd (neither (beq s t) (inf s) nan (λ k. k) (λ k. k) h)
add-finite f (inf s) (fin t n d) h = absurd h
add-finite f (fin s m e) nan h = absurd h
add-finite f (fin s m e) (inf t) h = absurd h
add-finite f (fin s m e) (fin t n d) h = (tt, tt)

pub neg-finite : (x : Float) → T (finite (neg x)) → T (finite x)
unfolding neg
neg-finite nan h = h
neg-finite (inf s) h = h
neg-finite (fin s m e) h = tt

pub sub-finite : (f : Format) (x y : Float) → T (finite (sub f x y)) → T (finite x) × T (finite y)
unfolding sub
sub-finite f x y h = let p = add-finite f x (neg y) h in (p.0, neg-finite y p.1)

pub mul-finite : (f : Format) (x y : Float) → T (finite (mul f x y)) → T (finite x) × T (finite y)
unfolding mul
mul-finite f nan y h = absurd h
mul-finite f (inf s) nan h = absurd h
mul-finite f (inf s) (inf t) h = absurd h
mul-finite f (inf s) (fin t n d) h = absurd (neither (eqb n 0) nan (inf (unlike s t)) (λ k. k) (λ k. k) h)
mul-finite f (fin s m e) nan h = absurd h
mul-finite f (fin s m e) (inf t) h = absurd (neither (eqb m 0) nan (inf (unlike s t)) (λ k. k) (λ k. k) h)
mul-finite f (fin s m e) (fin t n d) h = (tt, tt)

-- ---- a quotient: what is divided is finite

pub div-finite : (f : Format) (x y : Float) → T (finite (div f x y)) → T (finite x)
unfolding div
div-finite f nan y h = h
div-finite f (inf s) nan h = h
div-finite f (inf s) (inf t) h = h
div-finite f (inf s) (fin t n d) h = h
div-finite f (fin s m e) y h = tt

-- ---- a root, a size

pub root-under : (x c : Float) → T (finite c) → T (le (root x) c) → T (finite x)
unfolding root le lt eq
root-under nan c p h = h
root-under (inf true) c p h = h
root-under (inf false) nan p h = p
root-under (inf false) (inf s) p h = p
root-under (inf false) (fin s m e) p h = h
root-under (fin s m e) c p h = tt

pub abs-finite : (x : Float) → T (finite (abs x)) → T (finite x)
unfolding abs
abs-finite nan h = h
abs-finite (inf s) h = h
abs-finite (fin s m e) h = tt

-- a size over what has its sign clear, within a limit
pub size-under : (x y c : Float) → T (clear y) → T (finite c) → T (le (div binary64 (abs x) y) c) → T (finite x)
unfolding abs div le lt eq
size-under nan y c q p h = h
size-under (inf s) nan c q p h = q
size-under (inf s) (inf t) c q p h = h
size-under (inf s) (fin true m e) c q p h = absurd q
size-under (inf s) (fin false m e) nan q p h = p
size-under (inf s) (fin false m e) (inf t) q p h = p
size-under (inf s) (fin false m e) (fin t n d) q p h = h
size-under (fin s m e) y c q p h = tt

-- ---- a root of what has its sign clear, and a sum with what is not below 0, have it clear

sign_clear : (x : Float) → Sign false x → T (clear x)
sign_clear nan h = h
sign_clear (inf s) h = subst (λ (t : Bool). T (not t)) (sym h) tt
sign_clear (fin s m e) h = subst (λ (t : Bool). T (not t)) (sym h) tt

units-clear : (q k : ℕ) → T (clear (units binary64 false q k))
unfolding units odd
units-clear q k = go (ltb (q * 2 ^ k) (2 ^ (low binary64 + suc (emax binary64)))) q
  where
    go : (b : Bool) (q : ℕ) → T (clear (cond b (odd (suc (prec binary64)) false q k (low binary64)) (inf false)))
    go true zero = tt
    go true (suc q) = tt
    go false q = tt

root-units-clear : (n : ℕ) → T (clear (root_units n))
unfolding root_units
root-units-clear n =
    let k = (size n + 1) / 2 - prec binary64 in
    let u = 2 ^ k * 2 ^ k in
    let q = floor_root (n / u) in
    units-clear (nearest q (compare (4 * n) ((2 * q + 1) * (2 * q + 1) * u))) k

pub root-clear : (x : Float) → T (clear x) → T (clear (root x))
unfolding root
root-clear nan h = h
root-clear (inf true) h = absurd h
root-clear (inf false) h = tt
root-clear (fin true m e) h = absurd h
root-clear (fin false m e) h = go (eqb m 0)
  where
    go : (b : Bool) → T (clear (cond b (fin false m e) (root_units (m * up e * 2 ^ (2 * low binary64) / down e))))
    go true = tt
    go false = root-units-clear (m * up e * 2 ^ (2 * low binary64) / down e)

pub round-clear : (a c : ℕ) → T (clear (round binary64 false a c))
round-clear a c = sign_clear (round binary64 false a c) (round-sign binary64 false a c)

-- minus 0 is not below 0
nothing : (m : ℕ) (e : ℤ) → T (le nought (fin true m e)) → m * up e ≡ 0
unfolding le lt eq of_bits
nothing m e h =
    let a = 0 * 1 * down e in
    let b = m * up e * 1 in
    let p : a ≡ b = eqb→eq a b (and_l (eqb a b) (eqb a 0) h) in
    sym (mul-one (m * up e)) ∙ sym p ∙ zero-mul (down e)

pub add-clear-of : (x y : Float) → T (le nought x) → T (clear y) → T (clear (add binary64 x y))
unfolding le lt eq add sum of_bits
add-clear-of nan y h k = h
add-clear-of (inf true) y h k = absurd h
add-clear-of (inf false) (inf false) h k = tt
add-clear-of (inf false) (fin false n d) h k = tt
add-clear-of (fin s m e) (inf false) h k = tt
add-clear-of (fin false m e) (fin false n d) h k = round-clear (m * up e * down d + n * up d * down e) (down e * down d)
add-clear-of (fin true m e) (fin false n d) h k =
    let z : m * up e * down d ≡ 0 = ap (λ (v : ℕ). v * down d) (nothing m e h) ∙ zero-mul (down d) in
    subst (λ (a : ℕ). T (clear (cond (ltb a (n * up d * down e)) (round binary64 false (n * up d * down e - a) (down e * down d))
    (round binary64 (true && ltb (n * up d * down e) a) (a - n * up d * down e) (down e * down d))))) (sym z) (go (ltb 0 (n * up d * down e)))
  where
    b : ℕ
    b = n * up d * down e

    go : (t : Bool) → T (clear (cond t (round binary64 false (b - 0) (down e * down d)) (round binary64 (ltb b 0) (0 - b) (down e * down d))))
    go true = round-clear (b - 0) (down e * down d)
    go false = subst (λ (t : Bool). T (clear (round binary64 t (0 - b) (down e * down d)))) (sym (le-ltb b 0 zero-le))
        (round-clear (0 - b) (down e * down d))
add-clear-of (inf false) nan h k = elim k [ ]
add-clear-of (inf false) (inf true) h k = elim k [ ]
add-clear-of (inf false) (fin true n d) h k = elim k [ ]
add-clear-of (fin s m e) nan h k = elim k [ ]
add-clear-of (fin s m e) (inf true) h k = elim k [ ]
add-clear-of (fin false m e) (fin true n d) h k = elim k [ ]
add-clear-of (fin true m e) (fin true n d) h k = elim k [ ]

-- ---- a limit that is not passed

-- above 0, and not above a finite limit
pub limited : (x c : Float) → T (finite c) → T (lt nought x) → T (not (lt c x)) → T (finite x)
unfolding lt of_bits
limited nan c p h k = h
limited (inf true) c p h k = h
limited (inf false) nan p h k = p
limited (inf false) (inf s) p h k = p
limited (inf false) (fin s m e) p h k = k
limited (fin s m e) c p h k = tt

-- ---- a pivot: a value less squares, above 0

-- of x - y * y above 0: y is finite, and x is no minus infinity and a number
pub pivot-root : (x y : Float) → T (lt nought (sub binary64 x (mul binary64 y y))) → T (finite y)
unfolding lt sub add neg mul of_bits
pivot-root x (fin s m e) h = tt
pivot-root nan nan h = h
pivot-root (inf s) nan h = h
pivot-root (fin s m e) nan h = h
pivot-root nan (inf t) h = h
pivot-root (inf true) (inf true) h = h
pivot-root (inf true) (inf false) h = h
pivot-root (inf false) (inf true) h = h
pivot-root (inf false) (inf false) h = h
pivot-root (fin s m e) (inf true) h = h
pivot-root (fin s m e) (inf false) h = h

-- what is not above 0 less what is not below it is not above 0
none : nought ≡ add binary64 nought nought
unfolding add sum round of_bits
none = refl

falls : (x w : Float) → Is binary64 x → Is binary64 w → T (le x nought) → T (le nought w) → T (le (sub binary64 x w) nought)
unfolding sub neg of_bits
falls x w p q h k =
    let n = neg_is binary64 w q in
    let a : P binary64 x + 0 ≤ 0 + N binary64 x = le→units binary64 x nought p nought-is h in
    let b : P binary64 (neg w) + 0 ≤ 0 + N binary64 (neg w) =
    le→units binary64 (neg w) (neg nought) n (neg_is binary64 nought nought-is) (neg-anti nought w k) in
    subst (λ (v : Float). T (le (add binary64 x (neg w)) v)) (sym none)
    (rnd-mono binary64 (add binary64 x (neg w)) (add binary64 nought nought) (P binary64 x + P binary64 (neg w))
    (N binary64 x + N binary64 (neg w)) 0 0 (2 ^ low binary64)
    (pow_pos (low binary64)) (add-rnd binary64 x (neg w) p n) (add-rnd binary64 nought nought nought-is nought-is)
    (both (P binary64 x) (N binary64 x) (P binary64 (neg w)) (N binary64 (neg w)) a b))
  where
    both : (a b c d : ℕ) → a + 0 ≤ 0 + b → c + 0 ≤ 0 + d → a + c + 0 ≤ 0 + (b + d)
    both a b c d h k = omega arith

pub not-less : (m : ℕ) (e : ℤ) → T (le nought (fin false m e))
unfolding le of_bits
not-less m e = test-of-le (0 * 1 * down e) (m * up e * 1) (le_trans (le_of_eq (zero-mul (down e))) zero-le)

-- the square of y is above no x that it leaves above 0
less-square : (x w : Float) → T (fits binary64 x) → T (fits binary64 w) → T (clear w) → T (lt nought (sub binary64 x w)) → T (lt nought x)
unfolding lt sub add neg of_bits
less-square nan w f g c h = h
less-square (inf true) (inf false) f g c h = h
less-square (inf true) (fin false n d) f g c h = h
less-square (inf false) w f g c h = tt
less-square (fin s m e) (inf false) f g c h = absurd h
less-square (fin s m e) (fin false n d) f g c h = elim (cases (lt nought (fin s m e))) [
  | inl t ↦ holds (lt nought (fin s m e)) t
  | inr t ↦
      let x = fin s m e in
      let w = fin false n d in
      absurd (le-lt nought (sub binary64 x w)
      (falls x w (f, tt) (g, tt) (nlt→le binary64 nought x nought-is (f, tt) t) (not-less n d)) h)
]
less-square (inf true) nan f g c h = elim c [ ]
less-square (inf true) (inf true) f g c h = elim c [ ]
less-square (inf true) (fin true n d) f g c h = elim c [ ]
less-square (fin s m e) nan f g c h = elim c [ ]
less-square (fin s m e) (inf true) f g c h = elim c [ ]
less-square (fin s m e) (fin true n d) f g c h = elim c [ ]

pub pivot-value : (x y : Float) → T (fits binary64 x) → T (lt nought (sub binary64 x (mul binary64 y y))) → T (lt nought x)
pivot-value x y f h = elim (square-clear binary64 y) [
  | inl c ↦ less-square x (mul binary64 y y) f (mul-fits binary64 y y) c h
  | inr e ↦ absurd (no-root x y e (pivot-root x y h))
]
  where
    no-root : (x y : Float) → y ≡ nan → T (finite y) → ⊥
    no-root x y e k = subst (λ (v : Float). T (finite v)) e k
