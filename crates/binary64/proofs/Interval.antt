-- Sums, differences and products of values that lie in intervals lie in the intervals of the ends' sums, differences and products. Assumes nothing.
use mathlib.Core.Path.{◌≡◌, refl, sym, ap, ◌∙◌}
use mathlib.Core.Logic.{◌⊎◌, inl, inr}
use Prim.Native.Nat.{ℕ, ◌+◌, ◌*◌, ◌^◌, ◌≤◌}
use native.Mathlib.Nat.{le_trans, le_of_eq, le_of_lt, add-mul, mul_comm, mul-zero, mul-le-mul_right, mul-pos}
use native.Mathlib.Omega.{arith}
use mathlib.Core.Bool.{true, false}
use lib.Dec.{T}
use lib.Pow.{pow_pos}
use lib.Ieee.{Float, nan, inf, fin, Format, low, le, neg, add, sub, mul}
use lib.Ieee.Fits.{add-fits, mul-fits, neg-fits}
use lib.Ieee.Scale.{finite}
use Rattle.binary64.proofs.Nearer.{either}
use Rattle.binary64.proofs.Units.{Is, P, N, le→units, units→le, le-trans-is}
use Rattle.binary64.proofs.Rounded.{rnd-mono, add-rnd, mul-rnd, neg-anti}

-- ---- order
pub finite-between : (a x b : Float) → T (finite a) → T (finite b) → T (le a x) → T (le x b) → T (finite x)
unfolding le
finite-between nan x b p q h k = absurd p
finite-between (inf s) x b p q h k = absurd p
finite-between (fin s m e) nan b p q h k = absurd h
finite-between (fin s m e) (inf true) b p q h k = absurd h
finite-between (fin s m e) (inf false) nan p q h k = absurd q
finite-between (fin s m e) (inf false) (inf t) p q h k = absurd q
finite-between (fin s m e) (inf false) (fin t n d) p q h k = absurd k
finite-between (fin s m e) (fin t n d) b p q h k = tt

pub le_total : (f : Format) (x y : Float) → Is f x → Is f y → T (le x y) ⊎ T (le y x)
le_total f x y p q = elim (either (P f x + N f y) (P f y + N f x)) [
  | inl h ↦ inl (units→le f x y p q h)
  | inr h ↦ inr (units→le f y x q p (le_of_lt h))
]

-- ---- sums
add-mono : (f : Format) (x x' y y' : Float) → Is f x → Is f x' → Is f y → Is f y' → T (le x x') → T (le y y') → T (le (add f x y) (add f x' y'))
add-mono f x x' y y' p p' q q' h k =
    rnd-mono f (add f x y) (add f x' y') (P f x + P f y) (N f x + N f y) (P f x' + P f y') (N f x' + N f y') (2 ^ low f) (pow_pos (low f))
    (add-rnd f x y p q) (add-rnd f x' y' p' q')
    (both (P f x) (N f x) (P f x') (N f x') (P f y) (N f y) (P f y') (N f y') (le→units f x x' p p' h) (le→units f y y' q q' k))
  where
    both : (a b a' b' c d c' d' : ℕ) → a + b' ≤ a' + b → c + d' ≤ c' + d → a + c + (b' + d') ≤ a' + c' + (b + d)
    both a b a' b' c d c' d' h k = omega arith

-- ---- products, as pairs
abbrev PP : Format → Float → Float → ℕ
PP f x y = P f x * P f y + N f x * N f y

abbrev NN : Format → Float → Float → ℕ
NN f x y = P f x * N f y + N f x * P f y

abbrev Less : Format → Float → Float → Float → Float → Type 0
Less f x y x' y' = PP f x y + NN f x' y' ≤ PP f x' y' + NN f x y

less-trans : (f : Format) (x y x' y' x'' y'' : Float) → Less f x y x' y' → Less f x' y' x'' y'' → Less f x y x'' y''
less-trans f x y x' y' x'' y'' h k = go (PP f x y) (NN f x y) (PP f x' y') (NN f x' y') (PP f x'' y'') (NN f x'' y'') h k
  where
    go : (a a' b b' c c' : ℕ) → a + b' ≤ b + a' → b + c' ≤ c + b' → a + c' ≤ c + a'
    go a a' b b' c c' h k = omega arith

-- the factor c - d, with d = 0 or c = 0
scale : (a b a' b' c : ℕ) → a + b' ≤ a' + b → a * c + b' * c ≤ a' * c + b * c
scale a b a' b' c h = le_trans (le_of_eq (sym (add-mul a b' c))) (le_trans (mul-le-mul_right c h) (le_of_eq (add-mul a' b c)))

none : (a d : ℕ) → d ≡ 0 → a * d ≡ 0
none a d h = ap (λ (x : ℕ). a * x) h ∙ mul-zero a

grow : (a b a' b' c d : ℕ) → d ≡ 0 → a + b' ≤ a' + b → a * c + b * d + (a' * d + b' * c) ≤ a' * c + b' * d + (a * d + b * c)
grow a b a' b' c d z h =
    let s = scale a b a' b' c h in
    let z1 = none b d z in
    let z2 = none a' d z in
    let z3 = none b' d z in
    let z4 = none a d z in
    omega arith

fall : (a b a' b' c d : ℕ) → c ≡ 0 → a + b' ≤ a' + b → a' * c + b' * d + (a * d + b * c) ≤ a * c + b * d + (a' * d + b' * c)
fall a b a' b' c d z h =
    let s = scale a b a' b' d h in
    let z1 = none b c z in
    let z2 = none a' c z in
    let z3 = none b' c z in
    let z4 = none a c z in
    omega arith

pair_comm : (f : Format) (x y : Float) → (PP f x y ≡ PP f y x) × (NN f x y ≡ NN f y x)
pair_comm f x y = (one (P f x) (P f y) (N f x) (N f y), two (P f x) (P f y) (N f x) (N f y))
  where
    one : (a b c d : ℕ) → a * b + c * d ≡ b * a + d * c
    one a b c d = let p = mul_comm a b in let q = mul_comm c d in omega arith

    two : (a b c d : ℕ) → a * d + c * b ≡ b * c + d * a
    two a b c d = let p = mul_comm a d in let q = mul_comm c b in omega arith

less-comm : (f : Format) (x y x' y' : Float) → Less f x y x' y' → Less f y x y' x'
less-comm f x y x' y' h =
    let p = pair_comm f x y in
    let q = pair_comm f x' y' in
    go (PP f x y) (NN f x y) (PP f x' y') (NN f x' y') (PP f y x) (NN f y x) (PP f y' x') (NN f y' x') p.0 p.1 q.0 q.1 h
  where
    go : (a b c d a' b' c' d' : ℕ) → a ≡ a' → b ≡ b' → c ≡ c' → d ≡ d' → a + d ≤ c + b → a' + d' ≤ c' + b'
    go a b c d a' b' c' d' p q r s h = omega arith

sign_of : (f : Format) (x : Float) → (N f x ≡ 0) ⊎ (P f x ≡ 0)
sign_of f nan = inl refl
sign_of f (inf s) = inl refl
sign_of f (fin true m e) = inr refl
sign_of f (fin false m e) = inl refl

-- x * y lies above a corner, and below one
abbrev Corner : Format → Float → Float → Float → Float → Float → Float → Type 0
Corner f xl xh yl yh x y = (Less f xl yl x y ⊎ Less f xl yh x y) ⊎ (Less f xh yl x y ⊎ Less f xh yh x y)

abbrev Corner' : Format → Float → Float → Float → Float → Float → Float → Type 0
Corner' f xl xh yl yh x y = (Less f x y xl yl ⊎ Less f x y xl yh) ⊎ (Less f x y xh yl ⊎ Less f x y xh yh)

abbrev Ord : Format → Float → Float → Type 0
Ord f x y = P f x + N f y ≤ P f y + N f x

-- one factor moves: up where the other is not negative, and down where it is not positive
up-r : (f : Format) (x x' y : Float) → N f y ≡ 0 → Ord f x x' → Less f x y x' y
up-r f x x' y z h = grow (P f x) (N f x) (P f x') (N f x') (P f y) (N f y) z h

down-r : (f : Format) (x x' y : Float) → P f y ≡ 0 → Ord f x x' → Less f x' y x y
down-r f x x' y z h = fall (P f x) (N f x) (P f x') (N f x') (P f y) (N f y) z h

up-l : (f : Format) (x y y' : Float) → N f x ≡ 0 → Ord f y y' → Less f x y x y'
up-l f x y y' z h = less-comm f y x y' x (up-r f y y' x z h)

down-l : (f : Format) (x y y' : Float) → P f x ≡ 0 → Ord f y y' → Less f x y' x y
down-l f x y y' z h = less-comm f y' x y x (down-r f y y' x z h)

corner : (f : Format) (xl xh yl yh x y : Float) → Ord f xl x → Ord f x xh → Ord f yl y → Ord f y yh → Corner f xl xh yl yh x y
corner f xl xh yl yh x y a b c d = elim (sign_of f y) [
  | inl z ↦
      elim (sign_of f xl) [
        | inl w ↦ inl (inl (less-trans f xl yl xl y x y (up-l f xl yl y w c) (up-r f xl x y z a)))
        | inr w ↦ inl (inr (less-trans f xl yh xl y x y (down-l f xl y yh w d) (up-r f xl x y z a)))
      ]
  | inr z ↦
      elim (sign_of f xh) [
        | inl w ↦ inr (inl (less-trans f xh yl xh y x y (up-l f xh yl y w c) (down-r f x xh y z b)))
        | inr w ↦ inr (inr (less-trans f xh yh xh y x y (down-l f xh y yh w d) (down-r f x xh y z b)))
      ]
]

corner' : (f : Format) (xl xh yl yh x y : Float) → Ord f xl x → Ord f x xh → Ord f yl y → Ord f y yh → Corner' f xl xh yl yh x y
corner' f xl xh yl yh x y a b c d = elim (sign_of f y) [
  | inl z ↦
      elim (sign_of f xh) [
        | inl w ↦ inr (inr (less-trans f x y xh y xh yh (up-r f x xh y z b) (up-l f xh y yh w d)))
        | inr w ↦ inr (inl (less-trans f x y xh y xh yl (up-r f x xh y z b) (down-l f xh yl y w c)))
      ]
  | inr z ↦
      elim (sign_of f xl) [
        | inl w ↦ inl (inr (less-trans f x y xl y xl yh (down-r f xl x y z a) (up-l f xl y yh w d)))
        | inr w ↦ inl (inl (less-trans f x y xl y xl yl (down-r f xl x y z a) (down-l f xl yl y w c)))
      ]
]

less→le : (f : Format) (x y x' y' : Float) → Is f x → Is f y → Is f x' → Is f y' → Less f x y x' y' → T (le (mul f x y) (mul f x' y'))
less→le f x y x' y' p q p' q' h =
    rnd-mono f (mul f x y) (mul f x' y') (PP f x y) (NN f x y) (PP f x' y') (NN f x' y') (2 ^ low f * 2 ^ low f)
    (mul-pos (pow_pos (low f)) (pow_pos (low f))) (mul-rnd f x y p q) (mul-rnd f x' y' p' q') h

-- ---- intervals
pub record In (f : Format) (lo hi x : Float) : Type 0 where
  pub lo-is : Is f lo
  pub hi-is : Is f hi
  pub is : Is f x
  pub least : T (le lo x)
  pub most : T (le x hi)

pub add-in : (f : Format) (xl xh x yl yh y : Float) → In f xl xh x → In f yl yh y → T (finite (add f xl yl)) → T (finite (add f xh yh))
    → In f (add f xl yl) (add f xh yh) (add f x y)
add-in f xl xh x yl yh y i j a b =
    let l : T (le (add f xl yl) (add f x y)) = add-mono f xl x yl y i.lo-is i.is j.lo-is j.is i.least j.least in
    let h : T (le (add f x y) (add f xh yh)) = add-mono f x xh y yh i.is i.hi-is j.is j.hi-is i.most j.most in
    record {
      lo-is = (add-fits f xl yl, a);
      hi-is = (add-fits f xh yh, b);
      is = (add-fits f x y, finite-between (add f xl yl) (add f x y) (add f xh yh) a b l h);
      least = l;
      most = h;
    }

neg-finite : (x : Float) → T (finite x) → T (finite (neg x))
unfolding neg
neg-finite nan p = absurd p
neg-finite (inf s) p = absurd p
neg-finite (fin s m e) p = tt

pub neg_is : (f : Format) (x : Float) → Is f x → Is f (neg x)
neg_is f x p = (neg-fits f x p.0, neg-finite x p.1)

pub neg-in : (f : Format) (xl xh x : Float) → In f xl xh x → In f (neg xh) (neg xl) (neg x)
neg-in f xl xh x i = record {
  lo-is = neg_is f xh i.hi-is;
  hi-is = neg_is f xl i.lo-is;
  is = neg_is f x i.is;
  least = neg-anti x xh i.most;
  most = neg-anti xl x i.least;
}

pub sub_in : (f : Format) (xl xh x yl yh y : Float) → In f xl xh x → In f yl yh y → T (finite (sub f xl yh)) → T (finite (sub f xh yl))
    → In f (sub f xl yh) (sub f xh yl) (sub f x y)
unfolding sub
sub_in f xl xh x yl yh y i j a b = add-in f xl xh x (neg yh) (neg yl) (neg y) i (neg-in f yl yh y j) a b

pub mul_in : (f : Format) (xl xh x yl yh y lo hi : Float) → In f xl xh x → In f yl yh y
    → Is f lo → Is f hi → T (finite (mul f xl yl)) → T (finite (mul f xl yh)) → T (finite (mul f xh yl)) → T (finite (mul f xh yh))
    → T (le lo (mul f xl yl)) → T (le lo (mul f xl yh)) → T (le lo (mul f xh yl)) → T (le lo (mul f xh yh))
    → T (le (mul f xl yl) hi) → T (le (mul f xl yh) hi) → T (le (mul f xh yl) hi) → T (le (mul f xh yh) hi)
    → In f lo hi (mul f x y)
mul_in f xl xh x yl yh y lo hi i j p q f1 f2 f3 f4 l1 l2 l3 l4 h1 h2 h3 h4 =
    let a = le→units f xl x i.lo-is i.is i.least in
    let b = le→units f x xh i.is i.hi-is i.most in
    let c = le→units f yl y j.lo-is j.is j.least in
    let d = le→units f y yh j.is j.hi-is j.most in
    let under : (u v : Float) → Is f u → Is f v → T (finite (mul f u v)) → T (le lo (mul f u v)) → Less f u v x y
    → (w : Float) × (Is f w × (T (le lo w) × T (le w (mul f x y)))) =
    λ u v pu pv F L e. (mul f u v, ((mul-fits f u v, F), (L, less→le f u v x y pu pv i.is j.is e))) in
    let over : (u v : Float) → Is f u → Is f v → T (finite (mul f u v)) → T (le (mul f u v) hi) → Less f x y u v
    → (w : Float) × (Is f w × (T (le w hi) × T (le (mul f x y) w))) =
    λ u v pu pv F L e. (mul f u v, ((mul-fits f u v, F), (L, less→le f x y u v i.is j.is pu pv e))) in
    let s : (w : Float) × (Is f w × (T (le lo w) × T (le w (mul f x y)))) = elim (corner f xl xh yl yh x y a b c d) [
      | inl r ↦ elim r [ inl e ↦ under xl yl i.lo-is j.lo-is f1 l1 e | inr e ↦ under xl yh i.lo-is j.hi-is f2 l2 e ]
      | inr r ↦ elim r [ inl e ↦ under xh yl i.hi-is j.lo-is f3 l3 e | inr e ↦ under xh yh i.hi-is j.hi-is f4 l4 e ]
    ] in
    let t : (w : Float) × (Is f w × (T (le w hi) × T (le (mul f x y) w))) = elim (corner' f xl xh yl yh x y a b c d) [
      | inl r ↦ elim r [ inl e ↦ over xl yl i.lo-is j.lo-is f1 h1 e | inr e ↦ over xl yh i.lo-is j.hi-is f2 h2 e ]
      | inr r ↦ elim r [ inl e ↦ over xh yl i.hi-is j.lo-is f3 h3 e | inr e ↦ over xh yh i.hi-is j.hi-is f4 h4 e ]
    ] in
    let g : T (finite (mul f x y)) = finite-between s.0 (mul f x y) t.0 s.1.0.1 t.1.0.1 s.1.1.1 t.1.1.1 in
    let m : Is f (mul f x y) = (mul-fits f x y, g) in
    record {
      lo-is = p;
      hi-is = q;
      is = m;
      least = le-trans-is f lo s.0 (mul f x y) p s.1.0 m s.1.1.0 s.1.1.1;
      most = le-trans-is f (mul f x y) t.0 hi m t.1.0 q t.1.1.1 t.1.1.0;
    }
