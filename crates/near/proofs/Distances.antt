-- A distance between points with finite coordinates is a number: differences of finite numbers are numbers, squares of numbers have no
-- sign, and so have sums of those, whose roots are numbers. Assumes nothing.
use Rattle.std.proofs.Common.{◌≡◌, ℕ, zero, suc, ◌+◌, ◌-◌, ◌*◌, ◌/◌, ◌^◌, ◌<◌, Bool, true, false, cond, not, T, eqb, ltb, ◌⊎◌, refl, subst, inl, inr, arith}
use Prim.Native.Nat.{compare}
use lib.Ieee.{Float, Format, nan, inf, fin, binary64, prec, low, emax, up, down, units, odd, size, nearest, is_nan, add, sub, mul, of_bits}
use Rattle.binary64.specs.Steps.{◌⊖◌, ◌⊗◌, is_finite}
use Rattle.binary64.specs.Root.{root, root_units, floor_root}
use Rattle.binary64.proofs.Order.{is-finite}
use Rattle.binary64.proofs.Numbers.{finite-num, sub-num}
use Rattle.binary64.proofs.Clear.{clear, add-clear, square-clear}
use Rattle.dense.specs.Entries.{nth}
use Rattle.linalg.specs.Vec3 as vec3
use Rattle.near.specs.Meaning.{DistanceIsNumber, DistanceMayBeInfinite}

abbrev pub Num : Float → Type 0
Num x = T (not (is_nan x))

-- ---- a root

odd-num : (d q k l : ℕ) → Num (odd d false q k l)
unfolding odd is_nan
odd-num d zero k l = tt
odd-num d (suc q) k l = tt

units-num : (f : Format) (q k : ℕ) → Num (units f false q k)
unfolding units is_nan
units-num f q k = go (ltb (q * 2 ^ k) (2 ^ (low f + suc (emax f))))
  where
    go : (b : Bool) → Num (cond b (odd (suc (prec f)) false q k (low f)) (inf false))
    go true = odd-num (suc (prec f)) q k (low f)
    go false = tt

root-units-num : (n : ℕ) → Num (root_units n)
unfolding root_units
root-units-num n =
    let k = (size n + 1) / 2 - prec binary64 in
    let u = 2 ^ k * 2 ^ k in
    let q = floor_root (n / u) in
    units-num binary64 (nearest q (compare (4 * n) ((2 * q + 1) * (2 * q + 1) * u))) k

root-num : (x : Float) → T (clear x) → Num (root x)
unfolding root is_nan
root-num (inf false) h = tt
root-num (fin false m e) h =
    let n = m * up e * 2 ^ (2 * low binary64) / down e in
    go (eqb m 0) (root_units n) (root-units-num n)
  where
    go : (b : Bool) (r : Float) → Num r → Num (cond b (fin false m e) (cond false nan r))
    go true r n = tt
    go false r n = n
root-num nan h = elim h [ ]
root-num (inf true) h = elim h [ ]
root-num (fin true m e) h = elim h [ ]

-- ---- a square

square-of : (x : Float) → Num x → T (clear (x ⊗ x))
unfolding is_nan
square-of x h = go (square-clear binary64 x)
  where
    go : T (clear (x ⊗ x)) ⊎ (x ≡ nan) → T (clear (x ⊗ x))
    go (inl c) = c
    go (inr e) = absurd (subst Num e h)

apart : (x y : Float) → is_finite x ≡ true → is_finite y ≡ true → Num (x ⊖ y)
apart x y a b = sub-num binary64 x y (is-finite x a) (finite-num y (is-finite y b))

pub distance-is-number : DistanceIsNumber
distance-is-number a b f g =
    let square : (i : ℕ) → i < 3 → T (clear ((nth a i ⊖ nth b i) ⊗ (nth a i ⊖ nth b i))) =
    λ i l. square-of (nth a i ⊖ nth b i) (apart (nth a i) (nth b i) (f i l) (g i l)) in
    root-num (vec3.dot (vec3.sub a b) (vec3.sub a b))
    (add-clear binary64 _ _ (add-clear binary64 _ _ (square 0 (omega arith)) (square 1 (omega arith))) (square 2 (omega arith)))

pub distance-may-be-infinite : DistanceMayBeInfinite
unfolding add sub mul root of_bits
distance-may-be-infinite = refl
