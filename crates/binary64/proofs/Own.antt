-- A value that the format holds is the rounding of itself; so what is exactly no less than it is no less when rounded. Assumes nothing.
use mathlib.Core.Path.{◌≡◌, refl, sym, ap, ◌∙◌, subst}
use mathlib.Core.Logic.{inl, inr}
use Prim.Native.Nat.{ℕ, ◌+◌, ◌-◌, ◌*◌, ◌^◌, ◌≤◌, ◌<◌, zero-le}
use native.Mathlib.Nat.{lt_irrefl, zero-mul, mul-zero, mul_assoc, mul-pos, mul-le-mul_right}
use native.Mathlib.Omega.{arith}
use mathlib.Core.Bool.{Bool, true, false}
use lib.IntN.{ℤ}
use lib.Dec.{T}
use lib.Pow.{pow_pos}
use lib.Ieee.{Float, nan, inf, fin, binary64, low, neg, add, sub, mul, le, fits, round, of_bits}
use lib.Ieee.Fits.{round-fits, neg-fits}
use lib.Ieee.Exact.{round_exact}
use lib.Ieee.Scale.{round_same}
use Rattle.binary64.specs.Steps.{nought}
use Rattle.binary64.specs.Meaning.{HasUnits}
use Rattle.binary64.proofs.Held.{is_held, same_units}
use Rattle.binary64.proofs.Units.{Is, P, N, uo, in-units, low-enough, le→units}
use Rattle.binary64.proofs.Rounded.{Rnd, rnd-mono, add-rnd, mul-rnd, round-neg, minus-mul, less-nothing}
use Rattle.binary64.proofs.Interval.{neg_is}
use Rattle.binary64.proofs.Order.{nought-is}
use Rattle.binary64.proofs.Tail.{neg-units}

-- ---- a value is the rounding of itself
own : (m : ℕ) (e : ℤ) → T (fits binary64 (fin false m e)) → fin false m e ≡ round binary64 false (m * uo binary64 e) (2 ^ low binary64)
own m e t =
    let x = fin false m e in
    let a = m * uo binary64 e in
    let u : HasUnits x false a = (refl, sym (in-units binary64 m e (low-enough binary64 false m e t))) in
    let h = is_held x false a t u in
    let r = round binary64 false a (2 ^ low binary64) in
    let exact : HasUnits r false a =
    round_exact binary64 false a (2 ^ low binary64) h.m h.j (pow_pos (low binary64)) h.digits
    (subst (λ (z : ℕ). z < 2 ^ 2098) h.is h.below) (ap (λ (z : ℕ). z * 2 ^ low binary64) h.is) in
    same_units x r a t (round-fits binary64 false a (2 ^ low binary64)) u exact

own-rnd : (x : Float) → Is binary64 x → Rnd binary64 x (P binary64 x) (N binary64 x) (2 ^ low binary64)
unfolding neg
own-rnd nan p = absurd p.1
own-rnd (inf s) p = absurd p.1
own-rnd (fin false m e) p =
    inl (zero-le, own m e p.0 ∙ ap (λ (z : ℕ). round binary64 false z (2 ^ low binary64)) (less-nothing (m * uo binary64 e)))
own-rnd (fin true m e) p =
    let a = m * uo binary64 e in
    inr (
      zero-le,
      ap neg (own m e (neg-fits binary64 (fin true m e) p.0)) ∙ sym (round-neg binary64 a (2 ^ low binary64))
          ∙ ap (λ (z : ℕ). round binary64 true z (2 ^ low binary64)) (less-nothing a),
    )

-- over the square of 2 ^ low, as a product is
own-wide : (x : Float) → Is binary64 x
    → Rnd binary64 x (P binary64 x * 2 ^ low binary64) (N binary64 x * 2 ^ low binary64) (2 ^ low binary64 * 2 ^ low binary64)
own-wide x p = elim (own-rnd x p) [
  | inl r ↦ inl (mul-le-mul_right (2 ^ low binary64) r.0, r.1 ∙ wider false (P binary64 x) (N binary64 x))
  | inr r ↦ inr (mul-le-mul_right (2 ^ low binary64) r.0, r.1 ∙ wider true (N binary64 x) (P binary64 x))
]
  where
    wider : (s : Bool) (a b : ℕ) → let L = 2 ^ low binary64 in round binary64 s (a - b) L ≡ round binary64 s (a * L - b * L) (L * L)
    wider s a b =
        let L = 2 ^ low binary64 in
        round_same binary64 s (a - b) L (a * L - b * L) (L * L) (pow_pos (low binary64)) (mul-pos (pow_pos (low binary64)) (pow_pos (low binary64)))
        (sym (mul_assoc (a - b) L L) ∙ ap (λ (z : ℕ). z * L) (minus-mul a b L))

-- ---- so a sum, a difference or a product is no less than a value that the exact one is no less than, where nothing is negative
pub sum-above : (w x y : Float) → Is binary64 w → Is binary64 x → Is binary64 y → N binary64 x ≡ 0 → N binary64 y ≡ 0
    → P binary64 w ≤ P binary64 x + P binary64 y → T (le w (add binary64 x y))
sum-above w x y p q r X Y h =
    rnd-mono binary64 w (add binary64 x y) (P binary64 w) (N binary64 w) (P binary64 x + P binary64 y) (N binary64 x + N binary64 y)
    (2 ^ low binary64)
    (pow_pos (low binary64)) (own-rnd w p) (add-rnd binary64 x y q r)
    (least (P binary64 w) (N binary64 w) (P binary64 x + P binary64 y) (N binary64 x) (N binary64 y) X Y h)
  where
    least : (w w' s x y : ℕ) → x ≡ 0 → y ≡ 0 → w ≤ s → w + (x + y) ≤ s + w'
    least w w' s x y X Y h = omega arith

pub difference-above : (x y : Float) → Is binary64 x → Is binary64 y → T (le y x) → T (le nought (sub binary64 x y))
unfolding sub of_bits
difference-above x y p q h =
    let n = neg-units binary64 y in
    rnd-mono binary64 nought (add binary64 x (neg y)) (P binary64 nought) (N binary64 nought) (P binary64 x + P binary64 (neg y))
    (N binary64 x + N binary64 (neg y)) (2 ^ low binary64) (pow_pos (low binary64)) (own-rnd nought nought-is)
    (add-rnd binary64 x (neg y) p (neg_is binary64 y q))
    (least (P binary64 x) (N binary64 x) (P binary64 y) (N binary64 y) (P binary64 (neg y)) (N binary64 (neg y)) n.0 n.1
    (le→units binary64 y x q p h))
  where
    least : (x x' y y' m m' : ℕ) → m ≡ y' → m' ≡ y → y + x' ≤ x + y' → 0 + (x' + m') ≤ x + m + 0
    least x x' y y' m m' e e' h = omega arith

pub product-above : (w x y : Float) → Is binary64 w → Is binary64 x → Is binary64 y → N binary64 w ≡ 0 → N binary64 x ≡ 0 → N binary64 y ≡ 0
    → P binary64 w * 2 ^ low binary64 ≤ P binary64 x * P binary64 y → T (le w (mul binary64 x y))
product-above w x y p q r W X Y h =
    let L = 2 ^ low binary64 in
    rnd-mono binary64 w (mul binary64 x y) (P binary64 w * L) (N binary64 w * L) (P binary64 x * P binary64 y + N binary64 x * N binary64 y)
    (P binary64 x * N binary64 y + N binary64 x * P binary64 y) (L * L) (mul-pos (pow_pos (low binary64)) (pow_pos (low binary64))) (own-wide w p)
    (mul-rnd binary64 x y q r)
    (least (P binary64 w * L) (N binary64 w * L) (P binary64 x * P binary64 y) (N binary64 x * N binary64 y) (P binary64 x * N binary64 y)
    (N binary64 x * P binary64 y) (ap (λ (z : ℕ). P binary64 x * z) Y ∙ mul-zero (P binary64 x))
    (ap (λ (z : ℕ). z * P binary64 y) X ∙ zero-mul (P binary64 y)) h)
  where
    least : (w w' a b c d : ℕ) → c ≡ 0 → d ≡ 0 → w ≤ a → w + (c + d) ≤ a + b + w'
    least w w' a b c d C D h = omega arith

-- ---- above 0
pub no_minus : (x : Float) → 0 < P binary64 x → N binary64 x ≡ 0
no_minus nan h = refl
no_minus (inf s) h = refl
no_minus (fin true m e) h = absurd (lt_irrefl 0 h)
no_minus (fin false m e) h = refl

pub has-units : (x : Float) → Is binary64 x → 0 < P binary64 x → HasUnits x false (P binary64 x)
has-units nan p h = absurd p.1
has-units (inf s) p h = absurd p.1
has-units (fin true m e) p h = absurd (lt_irrefl 0 h)
has-units (fin false m e) p h = (refl, sym (in-units binary64 m e (low-enough binary64 false m e p.0)))

-- what is no less than a value above 0
pub more-units : (x y : Float) → Is binary64 x → Is binary64 y → T (le x y) → 0 < P binary64 x → (P binary64 x ≤ P binary64 y) × (0 < P binary64 y)
more-units x y p q l h =
    let u = le→units binary64 x y p q l in
    let z = no_minus x h in
    (omega arith, omega arith)
