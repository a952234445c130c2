-- The order of floats: `lt` is asymmetric and splits at every third number, and of two numbers `le` is `lt` the other way round, turned.
-- Assumes nothing.
use mathlib.Core.Path.{◌≡◌}
use mathlib.Core.Logic.{◌⊎◌, inl, inr}
use mathlib.Core.Bool.{Bool, true, false, not, ◌&&◌, ◌||◌}
use Prim.Native.Nat.{ℕ, ◌+◌, ◌*◌, ◌<◌}
use native.Mathlib.Nat.{mul-pos, eq-zero-or-pos}
use native.Mathlib.Omega.{arith}
use lib.Dec.{T, T_not, ltb, eqb, ltb→lt, lt→ltb, nltb→le, eqb→eq}
use lib.Ieee.{Float, nan, inf, fin, up, down, lt, le, eq, is_nan, below, level}
use lib.Ieee.Fits.{down_pos, and_l, and_r, and_i, eq→eqb}
use lib.Ieee.Positive.{through, first_pos}
use Rattle.binary64.proofs.Units.{or_split, or_l, or_r}

-- a test passes, or it does not
either : (b : Bool) → T b ⊎ T (not b)
either true = inl tt
either false = inr tt

-- ---- `lt` splits: of x / p < z / r, where y / q is any third fraction
split-up : (x y z p q r : ℕ) → 0 < q → x * r < z * p → (x * q < y * p) ⊎ (y * r < z * q)
split-up x y z p q r Q h = go (either (ltb (x * q) (y * p))) (either (ltb (y * r) (z * q)))
  where
    go
        : T (ltb (x * q) (y * p)) ⊎ T (not (ltb (x * q) (y * p))) → T (ltb (y * r) (z * q)) ⊎ T (not (ltb (y * r) (z * q)))
        → (x * q < y * p) ⊎ (y * r < z * q)
    go (inl t) u = inl (ltb→lt (x * q) (y * p) t)
    go (inr t) (inl u) = inr (ltb→lt (y * r) (z * q) u)
    go (inr t) (inr u) = absurd (omega (arith, through z y x r q p Q (nltb→le (y * r) (z * q) u) (nltb→le (x * q) (y * p) t)))

-- two fractions that are not both 0, and a third: it is not 0, or one of the two is not
split-pos : (x y z p q r : ℕ) → 0 < p → 0 < q → 0 < r → 0 < x * r + z * p → (0 < x * q + y * p) ⊎ (0 < y * r + z * q)
split-pos x y z p q r P Q R h = go (eq-zero-or-pos x) (eq-zero-or-pos z)
  where
    go : (x ≡ 0) ⊎ (0 < x) → (z ≡ 0) ⊎ (0 < z) → (0 < x * q + y * p) ⊎ (0 < y * r + z * q)
    go (inr a) b = inl (omega (arith, mul-pos a Q))
    go (inl a) (inr b) = inr (omega (arith, mul-pos b Q))
    go (inl a) (inl b) = absurd (let e : x * r ≡ 0 = rw a (omega arith) in let f : z * p ≡ 0 = rw b (omega arith) in omega arith)

module _ (x y z p q r : ℕ) (P : 0 < p) (Q : 0 < q) (R : 0 < r) where
  below_split : (s u t : Bool) → T (below s (x * r) t (z * p)) → T (below s (x * q) u (y * p)) ⊎ T (below u (y * r) t (z * q))
  below_split false false false h =
      elim (split-up x y z p q r Q (ltb→lt (x * r) (z * p) h)) [ inl k ↦ inl (lt→ltb (x * q) (y * p) k) | inr k ↦ inr (lt→ltb (y * r) (z * q) k) ]
  below_split false true false h = inr (lt→ltb 0 (y * r + z * q) (omega (arith, mul-pos (first_pos z p (omega (arith, ltb→lt (x * r) (z * p) h))) Q)))
  below_split true false false h = go (eq-zero-or-pos y) (split-pos x y z p q r P Q R (ltb→lt 0 (x * r + z * p) h))
    where
      go : (y ≡ 0) ⊎ (0 < y) → (0 < x * q + y * p) ⊎ (0 < y * r + z * q) → T (ltb 0 (x * q + y * p)) ⊎ T (ltb (y * r) (z * q))
      go a (inl b) = inl (lt→ltb 0 (x * q + y * p) b)
      go (inr a) (inr b) = inl (lt→ltb 0 (x * q + y * p) (omega (arith, mul-pos a P)))
      go (inl a) (inr b) = inr (lt→ltb (y * r) (z * q) (let e : y * r ≡ 0 = rw a (omega arith) in omega arith))
  below_split true true false h = go (eq-zero-or-pos y) (split-pos x y z p q r P Q R (ltb→lt 0 (x * r + z * p) h))
    where
      go : (y ≡ 0) ⊎ (0 < y) → (0 < x * q + y * p) ⊎ (0 < y * r + z * q) → T (ltb (y * p) (x * q)) ⊎ T (ltb 0 (y * r + z * q))
      go a (inr b) = inr (lt→ltb 0 (y * r + z * q) b)
      go (inr a) (inl b) = inr (lt→ltb 0 (y * r + z * q) (omega (arith, mul-pos a R)))
      go (inl a) (inl b) = inl (lt→ltb (y * p) (x * q) (let e : y * p ≡ 0 = rw a (omega arith) in omega arith))
  below_split true false true h = inl (lt→ltb 0 (x * q + y * p) (omega (arith, mul-pos (first_pos x r (omega (arith, ltb→lt (z * p) (x * r) h))) Q)))
  below_split true true true h =
      elim (split-up z y x r q p Q (ltb→lt (z * p) (x * r) h)) [ inl k ↦ inr (lt→ltb (z * q) (y * r) k) | inr k ↦ inl (lt→ltb (y * p) (x * q) k) ]
  below_split false u true h = absurd h

inf-split : (s u t : Bool) → T (s && not t) → T (s && not u) ⊎ T (u && not t)
inf-split true true false h = inr tt
inf-split true false false h = inl tt
inf-split false u t h = elim h [ ]
inf-split true false true h = elim h [ ]
inf-split true true true h = elim h [ ]

-- x < z: any number y is above x or below z
pub lt-split : (x y z : Float) → T (not (is_nan y)) → T (lt x z) → T (lt x y) ⊎ T (lt y z)
unfolding lt is_nan
lt-split x nan z N h = absurd N
lt-split nan (inf u) z N h = absurd h
lt-split nan (fin u m e) z N h = absurd h
lt-split (inf s) (inf u) nan N h = absurd h
lt-split (inf s) (inf u) (inf t) N h = inf-split s u t h
lt-split (inf s) (inf true) (fin t m e) N h = inr tt
lt-split (inf true) (inf false) (fin t m e) N h = inl tt
lt-split (inf false) (inf false) (fin t m e) N h = absurd h
lt-split (fin s m e) (inf u) nan N h = absurd h
lt-split (fin s m e) (inf true) (inf t) N h = inr h
lt-split (fin s m e) (inf false) (inf t) N h = inl tt
lt-split (fin s m e) (inf true) (fin t n d) N h = inr tt
lt-split (fin s m e) (inf false) (fin t n d) N h = inl tt
lt-split (inf true) (fin u m e) z N h = inl tt
lt-split (inf false) (fin u m e) nan N h = absurd h
lt-split (inf false) (fin u m e) (inf t) N h = absurd h
lt-split (inf false) (fin u m e) (fin t n d) N h = absurd h
lt-split (fin s m e) (fin u l c) nan N h = absurd h
lt-split (fin s m e) (fin u l c) (inf t) N h = inr h
lt-split (fin s m e) (fin u l c) (fin t n d) N h =
    below_split (m * up e) (l * up c) (n * up d) (down e) (down c) (down d) (down_pos e) (down_pos c) (down_pos d) s u t h

-- ---- `lt` is asymmetric, and transitive
below-asym : (s t : Bool) (a b : ℕ) → T (below s a t b) → T (below t b s a) → ⊥
below-asym false false a b h k = omega (arith, ltb→lt a b h, ltb→lt b a k)
below-asym true true a b h k = omega (arith, ltb→lt b a h, ltb→lt a b k)
below-asym false true a b h k = h
below-asym true false a b h k = k

pub lt-asym : (x y : Float) → T (lt x y) → T (lt y x) → ⊥
unfolding lt
lt-asym nan y h k = h
lt-asym (inf s) nan h k = h
lt-asym (inf true) (inf true) h k = h
lt-asym (inf true) (inf false) h k = k
lt-asym (inf false) (inf t) h k = h
lt-asym (inf true) (fin t n d) h k = k
lt-asym (inf false) (fin t n d) h k = h
lt-asym (fin s m e) nan h k = h
lt-asym (fin s m e) (inf true) h k = h
lt-asym (fin s m e) (inf false) h k = k
lt-asym (fin s m e) (fin t n d) h k = below-asym s t (m * up e * down d) (n * up d * down e) h k

-- what passes a comparison is a number
pub lt-right : (x y : Float) → T (lt x y) → T (not (is_nan y))
unfolding lt is_nan
lt-right nan nan h = h
lt-right (inf s) nan h = h
lt-right (fin s m e) nan h = h
lt-right x (inf s) h = tt
lt-right x (fin s m e) h = tt

pub le_left : (x y : Float) → T (le x y) → T (not (is_nan x))
unfolding le is_nan
le_left nan y h = h
le_left (inf s) y h = tt
le_left (fin s m e) y h = tt

pub lt_trans : (x y z : Float) → T (lt x y) → T (lt y z) → T (lt x z)
lt_trans x y z h k = elim (lt-split x z y (lt-right y z k) h) [ inl a ↦ a | inr a ↦ absurd (lt-asym y z k a) ]

-- ---- `le` of numbers
level-of : (a b c : ℕ) → a ≡ b → a ≡ c → T (eqb a b && eqb a c)
level-of a b c e f = and_i (eqb a b) (eqb a c) (eq→eqb e) (eq→eqb f)

below_total : (s t : Bool) (a b : ℕ) → T (not (below s a t b)) → T (below t b s a || level t b s a)
below_total false false a b h = go (either (ltb b a))
  where
    go : T (ltb b a) ⊎ T (not (ltb b a)) → T (ltb b a || (eqb b a && true))
    go (inl t) = or_l (ltb b a) (eqb b a && true) t
    go (inr t) = or_r (ltb b a) (eqb b a && true) (and_i (eqb b a) true (eq→eqb {a = b} {b = a} (omega (arith, nltb→le a b h, nltb→le b a t))) tt)
below_total true true a b h = go (either (ltb a b))
  where
    go : T (ltb a b) ⊎ T (not (ltb a b)) → T (ltb a b || (eqb b a && true))
    go (inl t) = or_l (ltb a b) (eqb b a && true) t
    go (inr t) = or_r (ltb a b) (eqb b a && true) (and_i (eqb b a) true (eq→eqb {a = b} {b = a} (omega (arith, nltb→le a b t, nltb→le b a h))) tt)
below_total false true a b h = go (either (ltb 0 (b + a)))
  where
    go : T (ltb 0 (b + a)) ⊎ T (not (ltb 0 (b + a))) → T (ltb 0 (b + a) || (eqb b a && eqb b 0))
    go (inl t) = or_l (ltb 0 (b + a)) (eqb b a && eqb b 0) t
    go (inr t) = or_r (ltb 0 (b + a)) (eqb b a && eqb b 0) (let w = nltb→le 0 (b + a) t in level-of b a 0 (omega arith) (omega arith))
below_total true false a b h = let w = nltb→le 0 (a + b) h in level-of b a 0 (omega arith) (omega arith)

pub le_of_not_lt : (x y : Float) → T (not (is_nan x)) → T (not (is_nan y)) → T (not (lt x y)) → T (le y x)
unfolding le is_nan
le_of_not_lt nan y M N h = absurd M
le_of_not_lt (inf s) nan M N h = absurd N
le_of_not_lt (inf true) (inf true) M N h = tt
le_of_not_lt (inf true) (inf false) M N h = absurd h
le_of_not_lt (inf false) (inf true) M N h = tt
le_of_not_lt (inf false) (inf false) M N h = tt
le_of_not_lt (inf true) (fin t n d) M N h = absurd h
le_of_not_lt (inf false) (fin t n d) M N h = tt
le_of_not_lt (fin s m e) nan M N h = absurd N
le_of_not_lt (fin s m e) (inf true) M N h = tt
le_of_not_lt (fin s m e) (inf false) M N h = absurd h
le_of_not_lt (fin s m e) (fin t n d) M N h = below_total s t (m * up e * down d) (n * up d * down e) h

pub lt_of_not_le : (x y : Float) → T (not (is_nan x)) → T (not (is_nan y)) → T (not (le y x)) → T (lt x y)
lt_of_not_le x y M N h = elim (either (lt x y)) [ inl k ↦ k | inr k ↦ absurd (T_not (le y x) h (le_of_not_lt x y M N k)) ]

level-below : (s t : Bool) (a b : ℕ) → T (level t b s a) → T (below s a t b) → ⊥
level-below false false a b l h = omega (arith, eqb→eq b a (and_l (eqb b a) true l), ltb→lt a b h)
level-below true true a b l h = omega (arith, eqb→eq b a (and_l (eqb b a) true l), ltb→lt b a h)
level-below false true a b l h = h
level-below true false a b l h = omega (arith, eqb→eq b a (and_l (eqb b a) (eqb b 0) l), eqb→eq b 0 (and_r (eqb b a) (eqb b 0) l), ltb→lt 0 (a + b) h)

eq-lt : (x y : Float) → T (eq y x) → T (lt x y) → ⊥
unfolding eq lt
eq-lt nan y e h = h
eq-lt (inf s) nan e h = h
eq-lt (inf true) (inf true) e h = h
eq-lt (inf true) (inf false) e h = e
eq-lt (inf false) (inf t) e h = h
eq-lt (inf s) (fin t n d) e h = e
eq-lt (fin s m f) nan e h = h
eq-lt (fin s m f) (inf t) e h = e
eq-lt (fin s m f) (fin t n d) e h = level-below s t (m * up f * down d) (n * up d * down f) e h

-- `le` rules the other way out
pub le-lt : (x y : Float) → T (le y x) → T (lt x y) → ⊥
unfolding le
le-lt x y l h = elim (or_split (lt y x) (eq y x) l) [ inl k ↦ lt-asym x y h k | inr e ↦ eq-lt x y e h ]
