-- Tests on floats as facts of the order, the absolute value, and what lies from -c to c. Assumes nothing.
use mathlib.Core.Path.{◌≡◌, refl, sym, subst}
use mathlib.Core.Logic.{◌⊎◌, inl, inr}
use Prim.Native.Nat.{ℕ, ◌+◌, ◌*◌, ◌≤◌, zero-le}
use native.Mathlib.Nat.{le_trans, le_of_eq, zero-mul}
use native.Mathlib.Omega.{arith}
use mathlib.Core.Bool.{Bool, true, false, cond, true≢false}
use lib.Dec.{T, eqb}
use borrow.Author.Tests.{ltb-false}
use lib.Ieee.{Float, nan, inf, fin, Format, binary64, up, down, le, lt, eq, neg, fits, of_bits}
use lib.Ieee.Fits.{and_i, eq→eqb}
use lib.Ieee.Scale.{finite}
use Rattle.binary64.specs.Steps.{nought, abs, is_finite}
use Rattle.binary64.specs.Within.{Within}
use Rattle.binary64.proofs.Units.{Is, le-trans-is, or_l, below-above, test-of-le, test-of-le'}
use Rattle.binary64.proofs.Rounded.{neg-anti}
use Rattle.binary64.proofs.Interval.{In, neg_is, finite-between}

pub holds : (b : Bool) → b ≡ true → T b
holds b h = subst T (sym h) tt

pub fails : (b : Bool) → b ≡ false → T b → ⊥
fails b h t = subst T h t

pub lt→le : (x y : Float) → lt x y ≡ true → T (le x y)
unfolding le
lt→le x y h = or_l (lt x y) (eq x y) (holds (lt x y) h)

no-sum : (a b : ℕ) → a + b ≤ 0 → (b ≡ a) × (b ≡ 0)
no-sum a b h = (omega arith, omega arith)

pub nlt→le : (f : Format) (x y : Float) → Is f x → Is f y → lt x y ≡ false → T (le y x)
unfolding lt le
nlt→le f nan y p q h = absurd p.1
nlt→le f (inf s) y p q h = absurd p.1
nlt→le f (fin s m e) nan p q h = absurd q.1
nlt→le f (fin s m e) (inf t) p q h = absurd q.1
nlt→le f (fin false m e) (fin false n d) p q h =
    test-of-le (n * up d * down e) (m * up e * down d) (ltb-false (m * up e * down d) (n * up d * down e) h)
nlt→le f (fin true m e) (fin true n d) p q h =
    test-of-le' (m * up e * down d) (n * up d * down e) (ltb-false (n * up d * down e) (m * up e * down d) h)
nlt→le f (fin false m e) (fin true n d) p q h = below-above (n * up d * down e) (m * up e * down d)
nlt→le f (fin true m e) (fin false n d) p q h =
    let a = m * up e * down d in
    let b = n * up d * down e in
    let k = no-sum a b (ltb-false 0 (a + b) h) in
    and_i (eqb b a) (eqb b 0) (eq→eqb k.0) (eq→eqb k.1)

pub neg-neg : (x : Float) → neg (neg x) ≡ x
unfolding neg
neg-neg nan = refl
neg-neg (inf true) = refl
neg-neg (inf false) = refl
neg-neg (fin true m e) = refl
neg-neg (fin false m e) = refl

-- ---- the absolute value
pub nought-is : Is binary64 nought
unfolding fits of_bits
nought-is = (tt, tt)

pub cases : (b : Bool) → (b ≡ true) ⊎ (b ≡ false)
cases true = inl refl
cases false = inr refl

-- |x| is x, which is not below 0, or -x, where x is not above 0
pub abs-cases : (x : Float) → T (finite x) → ((abs x ≡ x) × T (le nought x)) ⊎ ((abs x ≡ neg x) × T (le x nought))
unfolding abs neg le of_bits
abs-cases nan p = absurd p
abs-cases (inf s) p = absurd p
abs-cases (fin false m e) p = inl (refl, test-of-le (0 * 1 * down e) (m * up e * 1) (le_trans (le_of_eq (zero-mul (down e))) zero-le))
abs-cases (fin true m e) p = inr (refl, below-above (m * up e * 1) (0 * 1 * down e))

pub abs_is : (x : Float) → Is binary64 x → Is binary64 (abs x)
abs_is x p = elim (abs-cases x p.1) [ inl k ↦ subst (Is binary64) (sym k.0) p | inr k ↦ subst (Is binary64) (sym k.0) (neg_is binary64 x p) ]

pub abs-abs : (x : Float) → abs (abs x) ≡ abs x
unfolding abs
abs-abs nan = refl
abs-abs (inf s) = refl
abs-abs (fin s m e) = refl

-- the library's word for a finite value, and this crate's
pub finite-is : (x : Float) → T (finite x) → is_finite x ≡ true
unfolding is_finite
finite-is nan p = absurd p
finite-is (inf s) p = absurd p
finite-is (fin s m e) p = refl

pub is-finite : (x : Float) → is_finite x ≡ true → T (finite x)
unfolding is_finite
is-finite nan h = absurd (true≢false (sym h))
is-finite (inf s) h = absurd (true≢false (sym h))
is-finite (fin s m e) h = tt

-- ---- from -c to c
le-neg-l : (x c : Float) → T (le (neg x) c) → T (le (neg c) x)
le-neg-l x c h = subst (λ (z : Float). T (le (neg c) z)) (neg-neg x) (neg-anti (neg x) c h)

-- a bound on |x| is one on x, and the other way round
pub abs-in : (x c : Float) → Is binary64 x → Is binary64 c → T (le nought c) → T (le (neg c) nought) → T (le (abs x) c) → In binary64 (neg c) c x
abs-in x c p q z z' h = elim (abs-cases x p.1) [
  | inl k ↦ record {
    lo-is = neg_is binary64 c q;
    hi-is = q;
    is = p;
    least = le-trans-is binary64 (neg c) nought x (neg_is binary64 c q) nought-is p z' k.1;
    most = subst (λ (w : Float). T (le w c)) k.0 h;
  }
  | inr k ↦ record {
    lo-is = neg_is binary64 c q;
    hi-is = q;
    is = p;
    least = le-neg-l x c (subst (λ (w : Float). T (le w c)) k.0 h);
    most = le-trans-is binary64 x nought c p nought-is q k.1 z;
  }
]

pub in-abs : (x c : Float) → In binary64 (neg c) c x → T (le (abs x) c)
in-abs x c i = elim (abs-cases x i.is.1) [
  | inl k ↦ subst (λ (w : Float). T (le w c)) (sym k.0) i.most
  | inr k ↦ subst (λ (w : Float). T (le w c)) (sym k.0) (subst (λ (w : Float). T (le (neg x) w)) (neg-neg c) (neg-anti (neg c) x i.least))
]

-- as statements say it, of a value that the format holds
pub within_in : (x c : Float) → T (fits binary64 x) → Is binary64 c → Within c x → In binary64 (neg c) c x
within_in x c f q w =
    let n = neg_is binary64 c q in
    record { lo-is = n; hi-is = q; is = (f, finite-between (neg c) x c n.1 q.1 w.0 w.1); least = w.0; most = w.1 }

pub in_within : (x c : Float) → In binary64 (neg c) c x → Within c x
in_within x c i = (i.least, i.most)

-- a wider interval, and a choice
pub weak : (A B a b x : Float) → Is binary64 A → Is binary64 B → T (le A a) → T (le b B) → In binary64 a b x → In binary64 A B x
weak A B a b x p q h k i = record {
  lo-is = p;
  hi-is = q;
  is = i.is;
  least = le-trans-is binary64 A a x p i.lo-is i.is h i.least;
  most = le-trans-is binary64 x b B i.is i.hi-is q i.most k;
}

pub choice-in : (lo hi : Float) (b : Bool) (x y : Float) → (b ≡ true → In binary64 lo hi x) → (b ≡ false → In binary64 lo hi y)
    → In binary64 lo hi (cond b x y)
choice-in lo hi true x y p q = p refl
choice-in lo hi false x y p q = q refl
