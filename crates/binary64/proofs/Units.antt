-- The finite values that a format holds, in units of its smallest value: `P` for what is not negative and `N` for what is, one of which is 0.
-- Their order is that of P - N, written P x + N y ≤ P y + N x. Assumes nothing.
use mathlib.Core.Path.{◌≡◌, refl, sym, ap, ◌∙◌, subst}
use mathlib.Core.Logic.{◌⊎◌, inl, inr}
use Prim.Native.Nat.{ℕ, zero, suc, ◌+◌, ◌-◌, ◌*◌, ◌^◌, ◌%◌, ◌≤◌, zero-le}
use native.Mathlib.Nat.{le_trans, le_of_eq, le_of_lt, le_antisymm, lt_irrefl, lt_of_lt_of_le, lt_of_not-le, le_of_suc-le-suc, eq-zero-or-pos}
use native.Mathlib.Nat.{eq-or-lt_of_le, mul_comm, mul_assoc, mul_right_comm, mul-one, one-mul, zero-mul, mul-le-mul_right, le_of_mul-le-mul_right}
use native.Mathlib.Nat.{mul-pos}
use native.Mathlib.Omega.{arith}
use mathlib.Core.Bool.{Bool, true, false, ◌&&◌, ◌||◌}
use lib.IntN.{ℤ, pos, negsuc}
use lib.Dec.{T, ltb, leb, eqb, eqb→eq, ltb→lt, lt→ltb, leb→le}
use lib.Pow.{pow-add, pow_pos, pow-lt}
use lib.Ieee.{Float, nan, inf, fin, Format, prec, emax, low, up, down, le, fits}
use lib.Ieee.Fits.{and_i, and_l, and_r, down_pos, eq→eqb}
use lib.Ieee.Scale.{finite}

-- ---- 2 ^ e in units
abbrev pub uo : Format → ℤ → ℕ
uo f (pos k) = 2 ^ k * 2 ^ low f
uo f (negsuc k) = 2 ^ (low f - suc k)

pow-back : (a l : ℕ) → 2 ^ a ≤ 2 ^ l → a ≤ l
pow-back a l h = le_of_suc-le-suc (lt_of_not-le (λ (g : suc l ≤ a). lt_irrefl (2 ^ l) (lt_of_lt_of_le (pow-lt g) h)))

sub-add : (a b : ℕ) → a ≤ b → b - a + a ≡ b
sub-add a b h = omega arith

uo-is : (f : Format) (e : ℤ) → down e ≤ 2 ^ low f → uo f e * down e ≡ up e * 2 ^ low f
uo-is f (pos k) h = mul-one (2 ^ k * 2 ^ low f)
uo-is f (negsuc k) h =
    sym (pow-add 2 (low f - suc k) (suc k)) ∙ ap (λ (x : ℕ). 2 ^ x) (sub-add (suc k) (low f) (pow-back (suc k) (low f) h)) ∙ sym (one-mul (2 ^ low f))

-- ---- finite, and held by the format
abbrev pub Is : Format → Float → Type 0
Is f x = T (fits f x) × T (finite x)

no-down : (e : ℤ) → up e * down e ≡ 1 → down e ≡ 1
no-down (pos k) h = refl
no-down (negsuc k) h = sym (one-mul (2 ^ suc k)) ∙ h

pub low-enough : (f : Format) (s : Bool) (m : ℕ) (e : ℤ) → T (fits f (fin s m e)) → down e ≤ 2 ^ low f
unfolding fits
low-enough f s zero e h = subst (λ (x : ℕ). x ≤ 2 ^ low f) (sym (no-down e (eqb→eq (up e * down e) 1 h))) (pow_pos (low f))
low-enough f s (suc m) e h =
    leb→le (down e) (2 ^ low f)
    (and_r (eqb (suc m % 2) 1 && ltb (suc m) (2 ^ prec f)) (leb (down e) (2 ^ low f))
    (and_l (eqb (suc m % 2) 1 && ltb (suc m) (2 ^ prec f) && leb (down e) (2 ^ low f)) (ltb (suc m * up e) (2 ^ suc (emax f) * down e)) h))

abbrev pub P : Format → Float → ℕ
P f nan = 0
P f (inf s) = 0
P f (fin true m e) = 0
P f (fin false m e) = m * uo f e

abbrev pub N : Format → Float → ℕ
N f nan = 0
N f (inf s) = 0
N f (fin true m e) = m * uo f e
N f (fin false m e) = 0

-- m * up e / down e is m * uo e / 2 ^ low
pub in-units : (f : Format) (m : ℕ) (e : ℤ) → down e ≤ 2 ^ low f → m * uo f e * down e ≡ m * up e * 2 ^ low f
in-units f m e h = mul_assoc m (uo f e) (down e) ∙ ap (λ (x : ℕ). m * x) (uo-is f e h) ∙ sym (mul_assoc m (up e) (2 ^ low f))

-- the fractions that `lt` and `eq` compare, and the units
module _ (f : Format) (m : ℕ) (e : ℤ) (n : ℕ) (d : ℤ) (E : down e ≤ 2 ^ low f) (D : down d ≤ 2 ^ low f) where
  pub side : m * up e * down d * 2 ^ low f ≡ m * uo f e * (down e * down d)
  side = mul_right_comm (m * up e) (down d) (2 ^ low f) ∙ ap (λ (x : ℕ). x * down d) (sym (in-units f m e E))
      ∙ mul_assoc (m * uo f e) (down e) (down d)

  pub side' : n * up d * down e * 2 ^ low f ≡ n * uo f d * (down e * down d)
  side' = mul_right_comm (n * up d) (down e) (2 ^ low f) ∙ ap (λ (x : ℕ). x * down e) (sym (in-units f n d D))
      ∙ mul_assoc (n * uo f d) (down d) (down e) ∙ ap (λ (x : ℕ). n * uo f d * x) (mul_comm (down d) (down e))

  pub to-units : m * up e * down d ≤ n * up d * down e → m * uo f e ≤ n * uo f d
  to-units h = le_of_mul-le-mul_right (le_trans (le_of_eq (sym side)) (le_trans (mul-le-mul_right (2 ^ low f) h) (le_of_eq side')))
      (mul-pos (down_pos e) (down_pos d))

  of-units : m * uo f e ≤ n * uo f d → m * up e * down d ≤ n * up d * down e
  of-units h = le_of_mul-le-mul_right (le_trans (le_of_eq side) (le_trans (mul-le-mul_right (down e * down d) h) (le_of_eq (sym side'))))
      (pow_pos (low f))

-- ---- what `le` asks, by the four cases of the signs
pub or_split : (a b : Bool) → T (a || b) → T a ⊎ T b
or_split true b t = inl tt
or_split false b t = inr t

pub or_l : (a b : Bool) → T a → T (a || b)
or_l true b t = tt
or_l false b t = absurd t

pub or_r : (a b : Bool) → T b → T (a || b)
or_r true b t = tt
or_r false b t = t

pub le-of-test : (a b : ℕ) (g : Bool) → T (ltb a b || (eqb a b && g)) → a ≤ b
le-of-test a b g t = elim (or_split (ltb a b) (eqb a b && g) t)
    [ inl u ↦ le_of_lt (ltb→lt a b u) | inr u ↦ le_of_eq (eqb→eq a b (and_l (eqb a b) g u)) ]

pub test-of-le : (a b : ℕ) → a ≤ b → T (ltb a b || (eqb a b && true))
test-of-le a b h = elim (eq-or-lt_of_le h)
    [ inl p ↦ or_r (ltb a b) (eqb a b && true) (and_i (eqb a b) true (eq→eqb p) tt) | inr q ↦ or_l (ltb a b) (eqb a b && true) (lt→ltb a b q) ]

-- the same with the sides of `eqb` the other way round, as two negative values have it
le-of-test' : (a b : ℕ) (g : Bool) → T (ltb a b || (eqb b a && g)) → a ≤ b
le-of-test' a b g t = elim (or_split (ltb a b) (eqb b a && g) t)
    [ inl u ↦ le_of_lt (ltb→lt a b u) | inr u ↦ le_of_eq (sym (eqb→eq b a (and_l (eqb b a) g u))) ]

pub test-of-le' : (a b : ℕ) → a ≤ b → T (ltb a b || (eqb b a && true))
test-of-le' a b h = elim (eq-or-lt_of_le h)
    [ inl p ↦ or_r (ltb a b) (eqb b a && true) (and_i (eqb b a) true (eq→eqb (sym p)) tt) | inr q ↦ or_l (ltb a b) (eqb b a && true) (lt→ltb a b q) ]

pub below-above : (a b : ℕ) → T (ltb 0 (a + b) || (eqb a b && (false || eqb a 0)))
below-above a b = elim (eq-zero-or-pos (a + b)) [
  | inl z ↦ or_r (ltb 0 (a + b)) (eqb a b && eqb a 0) (and_i (eqb a b) (eqb a 0) (eq→eqb (both a b z)) (eq→eqb (first a b z)))
  | inr p ↦ or_l (ltb 0 (a + b)) (eqb a b && eqb a 0) (lt→ltb 0 (a + b) p)
]
  where
    both : (x y : ℕ) → x + y ≡ 0 → x ≡ y
    both x y h = omega arith

    first : (x y : ℕ) → x + y ≡ 0 → x ≡ 0
    first x y h = omega arith

zero_of : (x y z : ℕ) → x ≡ 0 → y ≡ x → y ≤ z
zero_of x y z h k = omega arith

sum-le : (a b : ℕ) → a ≤ 0 → b ≤ 0 → a + b ≤ 0
sum-le a b h k = omega arith

plus-zero : (a b : ℕ) → a ≤ b → a + 0 ≤ b + 0
plus-zero a b h = omega arith

zero-plus : (a b : ℕ) → a ≤ b → 0 + a ≤ 0 + b
zero-plus a b h = omega arith

minus-zero : (a b : ℕ) → a + 0 ≤ b + 0 → a ≤ b
minus-zero a b h = omega arith

zero_minus : (a b : ℕ) → 0 + a ≤ 0 + b → a ≤ b
zero_minus a b h = omega arith

pub le→units : (f : Format) (x y : Float) → Is f x → Is f y → T (le x y) → P f x + N f y ≤ P f y + N f x
unfolding le
le→units f nan y p q h = absurd p.1
le→units f (inf s) y p q h = absurd p.1
le→units f (fin s m e) nan p q h = absurd q.1
le→units f (fin s m e) (inf t) p q h = absurd q.1
le→units f (fin false m e) (fin false n d) p q h =
    plus-zero (m * uo f e) (n * uo f d)
    (to-units f m e n d (low-enough f false m e p.0) (low-enough f false n d q.0)
    (le-of-test (m * up e * down d) (n * up d * down e) true h))
le→units f (fin true m e) (fin true n d) p q h =
    zero-plus (n * uo f d) (m * uo f e)
    (to-units f n d m e (low-enough f true n d q.0) (low-enough f true m e p.0)
    (le-of-test' (n * up d * down e) (m * up e * down d) true h))
le→units f (fin true m e) (fin false n d) p q h = zero-le
le→units f (fin false m e) (fin true n d) p q h =
    let a = m * up e * down d in
    let b = n * up d * down e in
    let z : a ≡ 0 = eqb→eq a 0 (and_r (eqb a b) (eqb a 0) h) in
    let w : a ≡ b = eqb→eq a b (and_l (eqb a b) (eqb a 0) h) in
    let A : m * uo f e ≤ 0 * uo f d =
    to-units f m e 0 d (low-enough f false m e p.0) (low-enough f true n d q.0) (zero_of a a (0 * up d * down e) z refl) in
    let B : n * uo f d ≤ 0 * uo f e =
    to-units f n d 0 e (low-enough f true n d q.0) (low-enough f false m e p.0) (zero_of a b (0 * up e * down d) z (sym w)) in
    sum-le (m * uo f e) (n * uo f d) (le_trans A (le_of_eq (zero-mul (uo f d)))) (le_trans B (le_of_eq (zero-mul (uo f e))))

nothing : (a b : ℕ) → a + b ≤ 0 + 0 → (a ≤ 0) × (b ≤ 0)
nothing a b h = (omega arith, omega arith)

none : (a u v : ℕ) → a ≤ 0 * u * v → a ≡ 0
none a u v h = le_antisymm (le_trans h (le_of_eq (ap (λ (x : ℕ). x * v) (zero-mul u) ∙ zero-mul v))) zero-le

pub units→le : (f : Format) (x y : Float) → Is f x → Is f y → P f x + N f y ≤ P f y + N f x → T (le x y)
unfolding le
units→le f nan y p q h = absurd p.1
units→le f (inf s) y p q h = absurd p.1
units→le f (fin s m e) nan p q h = absurd q.1
units→le f (fin s m e) (inf t) p q h = absurd q.1
units→le f (fin false m e) (fin false n d) p q h =
    test-of-le (m * up e * down d) (n * up d * down e)
    (of-units f m e n d (low-enough f false m e p.0) (low-enough f false n d q.0) (minus-zero (m * uo f e) (n * uo f d) h))
units→le f (fin true m e) (fin true n d) p q h =
    test-of-le' (n * up d * down e) (m * up e * down d)
    (of-units f n d m e (low-enough f true n d q.0) (low-enough f true m e p.0) (zero_minus (n * uo f d) (m * uo f e) h))
units→le f (fin true m e) (fin false n d) p q h = below-above (m * up e * down d) (n * up d * down e)
units→le f (fin false m e) (fin true n d) p q h =
    let k = nothing (m * uo f e) (n * uo f d) h in
    let a = m * up e * down d in
    let b = n * up d * down e in
    let A : a ≡ 0 = none a (up d) (down e)
    (of-units f m e 0 d (low-enough f false m e p.0) (low-enough f true n d q.0) (le_trans k.0 zero-le)) in
    let B : b ≡ 0 = none b (up e) (down d)
    (of-units f n d 0 e (low-enough f true n d q.0) (low-enough f false m e p.0) (le_trans k.1 zero-le)) in
    and_i (eqb a b) (eqb a 0) (eq→eqb (A ∙ sym B)) (eq→eqb A)

pub le-trans-is : (f : Format) (x y z : Float) → Is f x → Is f y → Is f z → T (le x y) → T (le y z) → T (le x z)
le-trans-is f x y z p q r h k =
    units→le f x z p r (chain (P f x) (N f x) (P f y) (N f y) (P f z) (N f z) (le→units f x y p q h) (le→units f y z q r k))
  where
    chain : (a a' b b' c c' : ℕ) → a + b' ≤ b + a' → b + c' ≤ c + b' → a + c' ≤ c + a'
    chain a a' b b' c c' h k = omega arith
