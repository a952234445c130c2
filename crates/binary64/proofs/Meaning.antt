-- The statements of specs/Meaning.antt. The exact root is √n units, with n = w * 2 ^ h * 2 ^ h for a w of 105 or 106 binary digits. `root` is r * 2 ^
-- h units, with r nearest to √w (`root-law`). Of all m * 2 ^ j that a binary64 holds, that is the nearest to √n (`nearer-above`, `nearer-below`).
-- `half_away` is |x| + 1/2 cut to a whole number. The format holds it, since it is at most 2 ^ 53, or x is whole already. Assumes nothing.
use mathlib.Core.Path.{◌≡◌, refl, sym, ap, ◌∙◌, subst}
use mathlib.Core.Logic.{inl, inr}
use Prim.Native.Nat.{ℕ, zero, suc, ◌+◌, ◌-◌, ◌*◌, ◌/◌, ◌%◌, ◌^◌, ◌≤◌, ◌<◌, zero-le}
use native.Mathlib.Nat.{le_trans, le_of_eq, le_antisymm, lt_of_lt_of_le, lt_of_le_of_lt, lt_of_not-le, not-le_of_lt, zero-lt-suc, zero-mul, one-mul}
use native.Mathlib.Nat.{mul-one, mul_assoc, mul-pos, mul-le-mul, mul-le-mul_right, mod-lt, div-add-mod'}
use native.Mathlib.Omega.{arith}
use mathlib.Core.Bool.{Bool, true, false, false≢true}
use lib.Pow.{pow-add, pow_pos, pow_mono, shl_lt}
use lib.Ieee.{Float, nan, inf, fin, binary64, down, units, round}
use lib.Ieee.Fits.{up_pos, round-fits}
use lib.Ieee.Exact.{HasValue, units_val, round_exact}
use lib.Ieee.Back.{round_whole, whole_unique}
use lib.Ieee.Bits.{of_bits-fits}
use Rattle.binary64.specs.Steps.{is_finite}
use Rattle.binary64.specs.Root.{root, root_units}
use Rattle.binary64.specs.Held.{Nearest}
use Rattle.binary64.specs.Rounding.{half_away}
use Rattle.binary64.specs.Meaning.{IsBinary64, HasUnits, FiniteHasUnits, Nearer, NearestRoot, RootIsNearest, RootElsewhere, RoundedHalfAway}
use Rattle.binary64.specs.Meaning.{RoundsHalfAway, OthersPassThrough}
use Rattle.binary64.proofs.RootLaw.{root-law}
use Rattle.binary64.proofs.BitsLaw.{bits-law, in_reach}
use Rattle.binary64.proofs.Decode.{root-value, root-negative}
use Rattle.binary64.proofs.HalfLaw.{half-value}
use Rattle.binary64.proofs.Nearer.{either, coarse, nearer-above, nearer-below}
use Rattle.binary64.proofs.RootDigits.{cut_of, nearest-of, least, most}
use Rattle.binary64.proofs.Held.{in-units, Held, is_held, same_units}

pub finite-has-units : FiniteHasUnits
unfolding is_finite
finite-has-units nan t h = absurd (false≢true h)
finite-has-units (inf s) t h = absurd (false≢true h)
finite-has-units (fin s m e) t h = let k = in-units s m e t in (s, m * 2 ^ k.0, (refl, k.1))

-- ---- the root
every-other : (w h r : ℕ) → Nearest w r → 2 ^ 52 ≤ r → 2 ^ 104 ≤ w → (s : Bool) (b : ℕ) → Held b → Nearer (w * (2 ^ h * 2 ^ h)) (r * 2 ^ h) s b
every-other w h r near lo big false b k =
    subst (λ (x : ℕ). Nearer (w * (2 ^ h * 2 ^ h)) (r * 2 ^ h) false x) (sym k.is)
    (nearer-above w h r k.m k.j near lo big k.digits, nearer-below w h r k.m k.j near lo big k.digits)
every-other w h r near lo big true b k = λ l.
    let less : r * 2 ^ h - b ≤ r * 2 ^ h + 0 * 2 ^ 0 = omega arith in
    lt_of_le_of_lt (mul-le-mul less less) (nearer-below w h r 0 0 near lo big (pow_pos 53) (lt_of_le_of_lt zero-le l))

nearest-root : (a : ℕ) → Held a → 0 < a → NearestRoot a (root_units (a * 2 ^ 1074))
nearest-root a k p =
    let m = k.m in
    let j = k.j in
    let n : a * 2 ^ 1074 ≡ m * 2 ^ (j + 1074) = ap (λ (x : ℕ). x * 2 ^ 1074) k.is ∙ mul_assoc m (2 ^ j) (2 ^ 1074)
    ∙ ap (λ (x : ℕ). m * x) (sym (pow-add 2 j 1074)) in
    let c = cut_of m (j + 1074) some k.digits (omega arith) (omega (arith, short)) in
    let w = c.w in
    let h = c.h in
    let near = nearest-of w c.lo in
    let r = near.0 in
    let lo : 2 ^ 52 ≤ r = least w r c.lo near.1 in
    let hi : r ≤ 2 ^ 53 = most w r c.hi near.1 in
    let is : a * 2 ^ 1074 ≡ w * (2 ^ h * 2 ^ h) = n ∙ c.is in
    let e : root_units (a * 2 ^ 1074) ≡ units binary64 false r h = ap root_units is ∙ root-law w h r c.lo c.hi near.1 in
    record {
      binary = subst IsBinary64 (bits-law r h lo hi c.few ∙ sym e) (of_bits-fits binary64 (h * 2 ^ 52 + r));
      r = r * 2 ^ h;
      value = subst (λ (v : Float). HasUnits v false (r * 2 ^ h)) (sym e) (units_val binary64 false r h (in_reach r h hi c.few));
      nearest = λ y s b f v. subst (λ (x : ℕ). Nearer x (r * 2 ^ h) s b) (sym is) (every-other w h r near.1 lo c.lo s b (is_held y s b f v));
    }
  where
    some : 0 < k.m
    some = lt_of_not-le (λ (g : k.m ≤ 0). not-le_of_lt p
        (le_trans (le_of_eq k.is) (le_trans (mul-le-mul_right (2 ^ k.j) g) (le_of_eq (zero-mul (2 ^ k.j))))))

    short : k.j < 2098
    short = lt_of_not-le (λ (g : 2098 ≤ k.j). not-le_of_lt k.below
        (le_trans (pow_mono g) (le_trans (le_of_eq (sym (one-mul (2 ^ k.j))))
        (le_trans (mul-le-mul_right (2 ^ k.j) some) (le_of_eq (sym k.is))))))

one_size : (n r t : ℕ) → Nearer n r false t → Nearer n t false r → r ≡ t
one_size n r t f g = le_antisymm (not-over t r g f) (not-over r t f g)
  where
    not-over : (r t : ℕ) → Nearer n r false t → Nearer n t false r → t ≤ r
    not-over r t f g = elim (either t r) [
      | inl l ↦ l
      | inr l ↦ let a = f.0 l in let b = g.1 l in absurd (omega arith)
    ]

one-root : (a : ℕ) (v u : Float) → NearestRoot a v → NearestRoot a u → v ≡ u
one-root a v u p q =
    let e : p.r ≡ q.r = one_size (a * 2 ^ 1074) p.r q.r (p.nearest u false q.r q.binary q.value)
    (q.nearest v false p.r p.binary p.value) in
    same_units v u q.r p.binary q.binary (subst (HasUnits v false) e p.value) q.value

pub root-nearest : RootIsNearest
root-nearest x a f k p =
    let g : NearestRoot a (root x) = subst (NearestRoot a) (sym (root-value x a k p)) (nearest-root a (is_held x false a f k) p) in
    (g, λ v h. one-root a v (root x) h g)

-- ---- elsewhere
root-zeros : (x : Float) (s : Bool) → HasUnits x s 0 → root x ≡ x
unfolding root
root-zeros nan s h = absurd h
root-zeros (inf t) s h = absurd h
root-zeros (fin t zero e) s h = refl
root-zeros (fin t (suc m) e) s h = absurd (not-le_of_lt (mul-pos (mul-pos (zero-lt-suc m) (up_pos e)) (pow_pos 1074))
    (le_of_eq (h.1 ∙ zero-mul (down e))))

pub root-elsewhere : RootElsewhere
unfolding root
root-elsewhere = record {
  zeros = root-zeros;
  negatives = root-negative;
  others = (refl, refl, refl);
}

-- ---- rounding: with L for 2 ^ 1074, |x| + 1/2 is (2 * a + L) / (2 * L)
between : (a L : ℕ) → 0 < L → let q = (2 * a + L) / (2 * L) in (2 * a < 2 * (q * L) + L) × (2 * (q * L) ≤ 2 * a + L)
between a L p =
    let q = (2 * a + L) / (2 * L) in
    let r = (2 * a + L) % (2 * L) in
    let z : 0 < 2 * L = omega arith in
    let e : q * (2 * L) + r ≡ 2 * a + L = div-add-mod' (2 * a + L) (2 * L) in
    let l : r < 2 * L = mod-lt (2 * a + L) z in
    (omega arith, omega arith)

at_most : (a L q t : ℕ) → 2 * (q * L) ≤ 2 * a + L → 2 * a < 2 * (t * L) + L → q ≤ t
at_most a L q t h k = elim (either q t) [
  | inl l ↦ l
  | inr l ↦ let g : suc t * L ≤ q * L = mul-le-mul_right L l in absurd (omega arith)
]

-- the format holds the quotient: with j at least 1074 it is x itself, and below that at most 2 ^ 53
holds : (s : Bool) (a : ℕ) → Held a → let q = (2 * a + 2 ^ 1074) / (2 * 2 ^ 1074) in HasValue (round binary64 s q 1) s q 1
holds s a k = elim (either 1074 k.j) [
  | inl l ↦
      let c = k.m * 2 ^ (k.j - 1074) in
      let e : k.m * 2 ^ k.j ≡ c * 2 ^ 1074 = coarse k.m k.j 1074 l in
      subst (λ (x : ℕ). HasValue (round binary64 s x 1) s x 1) (sym (whole a c (2 ^ 1074) (pow_pos 1074) (k.is ∙ e)))
      (round_exact binary64 s c 1 k.m k.j (zero-lt-suc 0) k.digits (subst (λ (x : ℕ). x < 2 ^ 2098) k.is k.below)
      (sym e ∙ sym (mul-one (k.m * 2 ^ k.j))))
  | inr l ↦ round_whole binary64 s _ (small a (2 ^ 1074) (pow_pos 1074)
      (lt_of_le_of_lt (le_of_eq k.is) (lt_of_lt_of_le (shl_lt 53 k.j k.digits)
      (le_trans (pow_mono (near k.j l)) (le_of_eq (pow-add 2 53 1074))))))
]
  where
    near : (j : ℕ) → j < 1074 → 53 + j ≤ 53 + 1074
    near j l = omega arith

    whole : (a c L : ℕ) → 0 < L → a ≡ c * L → (2 * a + L) / (2 * L) ≡ c
    whole a c L p e = let b = between a L p in le_antisymm (at_most a L ((2 * a + L) / (2 * L)) c b.1 (omega arith))
        (at_most a L c ((2 * a + L) / (2 * L)) (omega arith) b.0)

    small : (a L : ℕ) → 0 < L → a < 2 ^ 53 * L → (2 * a + L) / (2 * L) ≤ 2 ^ 53
    small a L p h = at_most a L ((2 * a + L) / (2 * L)) (2 ^ 53) (between a L p).1 (omega arith)

one-whole : (s : Bool) (a : ℕ) (v u : Float) → RoundedHalfAway s a v → RoundedHalfAway s a u → v ≡ u
one-whole s a v u f g =
    let e : f.q ≡ g.q = le_antisymm (at_most a (2 ^ 1074) f.q g.q f.within.1 g.within.0)
    (at_most a (2 ^ 1074) g.q f.q g.within.1 f.within.0) in
    whole_unique binary64 v u s g.q f.binary g.binary (subst (λ (q : ℕ). HasValue v s q 1) e f.value) g.value

pub rounds-half-away : RoundsHalfAway
rounds-half-away x s a f k =
    let q = (2 * a + 2 ^ 1074) / (2 * 2 ^ 1074) in
    let b = between a (2 ^ 1074) (pow_pos 1074) in
    let r : RoundedHalfAway s a (round binary64 s q 1) = record {
      binary = round-fits binary64 s q 1;
      q = q;
      value = holds s a (is_held x s a f k);
      within = b;
    } in
    let g : RoundedHalfAway s a (half_away x) = subst (RoundedHalfAway s a) (sym (half-value x s a k)) r in
    (g, λ v h. one-whole s a v (half_away x) h g)

pub others-pass-through : OthersPassThrough
unfolding half_away
others-pass-through = (λ s. refl, refl)
