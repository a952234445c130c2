-- Sums and products as the roundings of their exact values in units, and the order of roundings. Assumes nothing.
use mathlib.Core.Path.{◌≡◌, refl, sym, ap, ◌∙◌, subst}
use mathlib.Core.Logic.{◌⊎◌, inl, inr}
use Prim.Native.Nat.{ℕ, zero, suc, ◌+◌, ◌-◌, ◌*◌, ◌^◌, ◌≤◌, ◌<◌, zero-le}
use native.Mathlib.Nat.{le_of_lt, zero-lt-suc, add-mul, mul_comm, mul-mul-mul_comm, zero-mul, mul-zero, mul-sub}
use native.Mathlib.Nat.{mul-le-mul_right, mul-pos}
use native.Mathlib.Omega.{arith}
use mathlib.Core.Bool.{Bool, true, false, not, ◌&&◌, ◌||◌, cond, true≢false}
use lib.IntN.{ℤ}
use lib.Dec.{T, ltb, eqb, eqb→eq, ltb→lt, nltb→le}
use lib.Pow.{pow_pos}
use lib.Ieee.{Float, nan, inf, fin, Format, binary32, binary64, prec, emax, low, up, down, le, neg, round, sum, add, mul, units, odd}
use lib.Ieee.Fits.{and_i, and_l, and_r, down_pos, eq→eqb, round_is}
use lib.Ieee.Order.{round_mono}
use lib.Ieee.Scale.{round_same}
use Rattle.binary64.proofs.Units.{side, side', to-units, Is, P, N, uo, in-units, low-enough, below-above, or_split, or_l, or_r}

-- ---- the sign of a rounding
abbrev pub Sign : Bool → Float → Type 0
Sign s nan = ⊥
Sign s (inf t) = t ≡ s
Sign s (fin t m e) = t ≡ s

odd_sign : (d : ℕ) (s : Bool) (q k l : ℕ) → Sign s (odd d s q k l)
unfolding odd
odd_sign d s zero k l = refl
odd_sign d s (suc q) k l = refl

cond-sign : (s b : Bool) (x y : Float) → Sign s x → Sign s y → Sign s (cond b x y)
cond-sign s true x y p q = p
cond-sign s false x y p q = q

units-sign : (f : Format) (s : Bool) (q k : ℕ) → Sign s (units f s q k)
unfolding units
units-sign f s q k = cond-sign s (ltb (q * 2 ^ k) (2 ^ (low f + suc (emax f)))) (odd (suc (prec f)) s q k (low f)) (inf s)
    (odd_sign (suc (prec f)) s q k (low f)) refl

pub round-sign : (f : Format) (s : Bool) (a c : ℕ) → Sign s (round f s a c)
round-sign f s a c = subst (Sign s) (sym (round_is f s a c)) (units-sign f s _ _)

-- a value that is not above zero is below one that is not below
signs-le : (x y : Float) → Sign true x → Sign false y → T (le x y)
unfolding le
signs-le (inf true) (inf false) p q = tt
signs-le (inf true) (inf true) p q = absurd (true≢false q)
signs-le (inf true) (fin t n d) p q = tt
signs-le (inf false) y p q = absurd (true≢false (sym p))
signs-le (fin false m e) y p q = absurd (true≢false (sym p))
signs-le (fin true m e) (inf false) p q = tt
signs-le (fin true m e) (inf true) p q = absurd (true≢false q)
signs-le (fin true m e) (fin true n d) p q = absurd (true≢false q)
signs-le (fin true m e) (fin false n d) p q = below-above (m * up e * down d) (n * up d * down e)
signs-le nan y p q = elim p [ ]
signs-le (inf true) nan p q = elim q [ ]
signs-le (fin true m e) nan p q = elim q [ ]

-- ---- `neg` turns the order round, and goes through `round`
odd-neg : (d : ℕ) (q k l : ℕ) → odd d true q k l ≡ neg (odd d false q k l)
unfolding odd neg
odd-neg d zero k l = refl
odd-neg d (suc q) k l = refl

cond-neg : (b : Bool) (x y x' y' : Float) → x ≡ neg x' → y ≡ neg y' → cond b x y ≡ neg (cond b x' y')
cond-neg true x y x' y' p q = p
cond-neg false x y x' y' p q = q

units-neg : (f : Format) (q k : ℕ) → units f true q k ≡ neg (units f false q k)
unfolding units neg
units-neg f q k = cond-neg (ltb (q * 2 ^ k) (2 ^ (low f + suc (emax f)))) (odd (suc (prec f)) true q k (low f)) (inf true)
    (odd (suc (prec f)) false q k (low f)) (inf false) (odd-neg (suc (prec f)) q k (low f)) refl

pub round-neg : (f : Format) (a c : ℕ) → round f true a c ≡ neg (round f false a c)
round-neg f a c = round_is f true a c ∙ units-neg f _ _ ∙ ap neg (sym (round_is f false a c))

swap-eq : (a b : ℕ) (g h : Bool) → (T g → T h) → T (ltb a b || (eqb a b && g)) → T (ltb a b || (eqb b a && h))
swap-eq a b g h k t = elim (or_split (ltb a b) (eqb a b && g) t) [
  | inl u ↦ or_l (ltb a b) (eqb b a && h) u
  | inr u ↦ or_r (ltb a b) (eqb b a && h) (and_i (eqb b a) h (eq→eqb (sym (eqb→eq a b (and_l (eqb a b) g u)))) (k (and_r (eqb a b) g u)))
]

pub neg-anti : (x y : Float) → T (le x y) → T (le (neg y) (neg x))
unfolding le neg
neg-anti nan y h = absurd h
neg-anti (inf s) nan h = absurd h
neg-anti (inf true) (inf true) h = tt
neg-anti (inf true) (inf false) h = tt
neg-anti (inf false) (inf true) h = absurd h
neg-anti (inf false) (inf false) h = tt
neg-anti (inf true) (fin t n d) h = tt
neg-anti (inf false) (fin t n d) h = absurd h
neg-anti (fin s m e) nan h = absurd h
neg-anti (fin s m e) (inf true) h = absurd h
neg-anti (fin s m e) (inf false) h = tt
neg-anti (fin false m e) (fin false n d) h = swap-eq (m * up e * down d) (n * up d * down e) true true (λ t. t) h
neg-anti (fin true m e) (fin true n d) h =
    let a = m * up e * down d in
    let b = n * up d * down e in
    elim (or_split (ltb b a) (eqb a b && true) h) [
      | inl u ↦ or_l (ltb b a) (eqb b a && true) u
      | inr u ↦ or_r (ltb b a) (eqb b a && true) (and_i (eqb b a) true (eq→eqb (sym (eqb→eq a b (and_l (eqb a b) true u)))) tt)
    ]
neg-anti (fin true m e) (fin false n d) h = below-above (n * up d * down e) (m * up e * down d)
neg-anti (fin false m e) (fin true n d) h =
    let a = m * up e * down d in
    let b = n * up d * down e in
    let z : a ≡ 0 = eqb→eq a 0 (and_r (eqb a b) (eqb a 0) h) in
    let w : a ≡ b = eqb→eq a b (and_l (eqb a b) (eqb a 0) h) in
    and_i (eqb b a) (eqb b 0) (eq→eqb (sym w)) (eq→eqb (sym w ∙ z))

-- ---- z is (p - n) / c rounded
abbrev pub Rnd : Format → Float → ℕ → ℕ → ℕ → Type 0
Rnd f z p n c = ((n ≤ p) × (z ≡ round f false (p - n) c)) ⊎ ((p ≤ n) × (z ≡ round f true (n - p) c))

pub less-nothing : (a : ℕ) → a ≡ a - 0
less-nothing a = omega arith

both_zero : (p n p' n' : ℕ) → n ≤ p → p' ≤ n' → p + n' ≤ p' + n → (p - n ≡ 0) × (n' - p' ≡ 0)
both_zero p n p' n' a b h = (omega arith, omega arith)

up-mono : (p n p' n' c : ℕ) → n ≤ p → p + n' ≤ p' + n → (p - n) * c ≤ (p' - n') * c
up-mono p n p' n' c a h = mul-le-mul_right c (go p n p' n' a h)
  where
    go : (p n p' n' : ℕ) → n ≤ p → p + n' ≤ p' + n → p - n ≤ p' - n'
    go p n p' n' a h = omega arith

down-mono : (p n p' n' c : ℕ) → p' ≤ n' → p + n' ≤ p' + n → (n' - p') * c ≤ (n - p) * c
down-mono p n p' n' c a h = mul-le-mul_right c (go p n p' n' a h)
  where
    go : (p n p' n' : ℕ) → p' ≤ n' → p + n' ≤ p' + n → n' - p' ≤ n - p
    go p n p' n' a h = omega arith

-- a rounded zero is not above one of the other sign
zero-pair : (f : Format) → T (le (round f false 0 1) (round f true 0 1))
unfolding round le
zero-pair binary32 = tt
zero-pair binary64 = tt

zeros : (f : Format) (c : ℕ) → 0 < c → T (le (round f false 0 c) (round f true 0 c))
zeros f c C =
    let e : 0 * 1 ≡ 0 * c = zero-mul 1 ∙ sym (zero-mul c) in
    subst (λ (z : Float). T (le z (round f true 0 c))) (round_same f false 0 1 0 c (zero-lt-suc 0) C (sym e))
    (subst (λ (z : Float). T (le (round f false 0 1) z)) (round_same f true 0 1 0 c (zero-lt-suc 0) C (sym e)) (zero-pair f))

pub rnd-mono : (f : Format) (z z' : Float) (p n p' n' c : ℕ) → 0 < c → Rnd f z p n c → Rnd f z' p' n' c → p + n' ≤ p' + n → T (le z z')
rnd-mono f z z' p n p' n' c C (inl a) (inl b) h =
    subst (λ (w : Float). T (le w z')) (sym a.1)
    (subst (λ (w : Float). T (le (round f false (p - n) c) w)) (sym b.1) (round_mono f (p - n) c (p' - n') c C C (up-mono p n p' n' c a.0 h)))
rnd-mono f z z' p n p' n' c C (inr a) (inl b) h =
    subst (λ (w : Float). T (le w z')) (sym a.1)
    (subst (λ (w : Float). T (le (round f true (n - p) c) w)) (sym b.1)
    (signs-le (round f true (n - p) c) (round f false (p' - n') c) (round-sign f true (n - p) c) (round-sign f false (p' - n') c)))
rnd-mono f z z' p n p' n' c C (inl a) (inr b) h =
    let k = both_zero p n p' n' a.0 b.0 h in
    subst (λ (w : Float). T (le w z')) (sym (a.1 ∙ ap (λ (x : ℕ). round f false x c) k.0))
    (subst (λ (w : Float). T (le (round f false 0 c) w)) (sym (b.1 ∙ ap (λ (x : ℕ). round f true x c) k.1)) (zeros f c C))
rnd-mono f z z' p n p' n' c C (inr a) (inr b) h =
    subst (λ (w : Float). T (le w z')) (sym (a.1 ∙ round-neg f (n - p) c))
    (subst (λ (w : Float). T (le (neg (round f false (n - p) c)) w)) (sym (b.1 ∙ round-neg f (n' - p') c))
    (neg-anti (round f false (n' - p') c) (round f false (n - p) c) (round_mono f (n' - p') c (n - p) c C C (down-mono p n p' n' c b.0 h))))

-- ---- a sum
pub minus-mul : (a b c : ℕ) → (a - b) * c ≡ a * c - b * c
minus-mul a b c = mul_comm (a - b) c ∙ mul-sub c a b ∙ ap (λ (x : ℕ). x - c * b) (mul_comm c a) ∙ ap (λ (x : ℕ). a * c - x) (mul_comm c b)

-- (m * up e * down d ± n * up d * down e) / (down e * down d), in units
module _ (f : Format) (m : ℕ) (e : ℤ) (n : ℕ) (d : ℤ) (E : down e ≤ 2 ^ low f) (D : down d ≤ 2 ^ low f) where
  plus : (s : Bool) → round f s (m * up e * down d + n * up d * down e) (down e * down d) ≡ round f s (m * uo f e + n * uo f d) (2 ^ low f)
  plus s = round_same f s (m * up e * down d + n * up d * down e) (down e * down d) (m * uo f e + n * uo f d) (2 ^ low f)
      (mul-pos (down_pos e) (down_pos d)) (pow_pos (low f))
      (add-mul (m * up e * down d) (n * up d * down e) (2 ^ low f) ∙ ap (λ (x : ℕ). x + n * up d * down e * 2 ^ low f) (side f m e n d E D)
      ∙ ap (λ (x : ℕ). m * uo f e * (down e * down d) + x) (side' f m e n d E D) ∙ sym (add-mul (m * uo f e) (n * uo f d) (down e * down d)))

  less : (s : Bool) → round f s (m * up e * down d - n * up d * down e) (down e * down d) ≡ round f s (m * uo f e - n * uo f d) (2 ^ low f)
  less s = round_same f s (m * up e * down d - n * up d * down e) (down e * down d) (m * uo f e - n * uo f d) (2 ^ low f)
      (mul-pos (down_pos e) (down_pos d)) (pow_pos (low f))
      (minus-mul (m * up e * down d) (n * up d * down e) (2 ^ low f) ∙ ap (λ (x : ℕ). x - n * up d * down e * 2 ^ low f) (side f m e n d E D)
      ∙ ap (λ (x : ℕ). m * uo f e * (down e * down d) - x) (side' f m e n d E D) ∙ sym (minus-mul (m * uo f e) (n * uo f d) (down e * down d)))

more : (f : Format) (m : ℕ) (e : ℤ) (n : ℕ) (d : ℤ) → down e ≤ 2 ^ low f → down d ≤ 2 ^ low f → (s : Bool)
    → round f s (n * up d * down e - m * up e * down d) (down e * down d) ≡ round f s (n * uo f d - m * uo f e) (2 ^ low f)
more f m e n d E D s =
    ap (λ (x : ℕ). round f s (n * up d * down e - m * up e * down d) x) (mul_comm (down e) (down d)) ∙ less f n d m e D E s

-- z from its exact value, by the sign
at-pos : (f : Format) (z : Float) (p n a c : ℕ) → n ≤ p → a ≡ p - n → z ≡ round f false a c → Rnd f z p n c
at-pos f z p n a c h k e = inl (h, e ∙ ap (λ (x : ℕ). round f false x c) k)

at-neg : (f : Format) (z : Float) (p n a c : ℕ) → p ≤ n → a ≡ n - p → z ≡ round f true a c → Rnd f z p n c
at-neg f z p n a c h k e = inr (h, e ∙ ap (λ (x : ℕ). round f true x c) k)

-- A - B, and B - A
over : (f : Format) (z : Float) (A B c : ℕ) → B ≤ A → z ≡ round f false (A - B) c → Rnd f z (A + 0) (0 + B) c
over f z A B c h e = at-pos f z (A + 0) (0 + B) (A - B) c (omega arith) (omega arith) e

under : (f : Format) (z : Float) (A B c : ℕ) → A ≤ B → z ≡ round f true (B - A) c → Rnd f z (A + 0) (0 + B) c
under f z A B c h e = at-neg f z (A + 0) (0 + B) (B - A) c (omega arith) (omega arith) e

over' : (f : Format) (z : Float) (A B c : ℕ) → A ≤ B → z ≡ round f false (B - A) c → Rnd f z (0 + B) (A + 0) c
over' f z A B c h e = at-pos f z (0 + B) (A + 0) (B - A) c (omega arith) (omega arith) e

under' : (f : Format) (z : Float) (A B c : ℕ) → B ≤ A → z ≡ round f true (A - B) c → Rnd f z (0 + B) (A + 0) c
under' f z A B c h e = at-neg f z (0 + B) (A + 0) (A - B) c (omega arith) (omega arith) e

equal : (A B : ℕ) → A ≤ B → B ≤ A → A - B ≡ B - A
equal A B h k = omega arith

no_less : (A B : ℕ) → A + B ≡ A + B - (0 + 0)
no_less A B = omega arith

pub add-rnd : (f : Format) (x y : Float) → Is f x → Is f y → Rnd f (add f x y) (P f x + P f y) (N f x + N f y) (2 ^ low f)
unfolding add sum
add-rnd f nan y p q = absurd p.1
add-rnd f (inf s) y p q = absurd p.1
add-rnd f (fin s m e) nan p q = absurd q.1
add-rnd f (fin s m e) (inf t) p q = absurd q.1
add-rnd f (fin false m e) (fin false n d) p q =
    let A = m * uo f e in
    let B = n * uo f d in
    at-pos f _ (A + B) (0 + 0) (A + B) (2 ^ low f) zero-le (no_less A B)
    (plus f m e n d (low-enough f false m e p.0) (low-enough f false n d q.0) false)
add-rnd f (fin true m e) (fin true n d) p q =
    let A = m * uo f e in
    let B = n * uo f d in
    at-neg f _ (0 + 0) (A + B) (A + B) (2 ^ low f) zero-le (no_less A B)
    (plus f m e n d (low-enough f true m e p.0) (low-enough f true n d q.0) true)
add-rnd f (fin false m e) (fin true n d) p q =
    let a = m * up e * down d in
    let b = n * up d * down e in
    go (ltb a b) (ltb→lt a b) (nltb→le a b)
  where
    E : down e ≤ 2 ^ low f
    E = low-enough f false m e p.0

    D : down d ≤ 2 ^ low f
    D = low-enough f true n d q.0

    go : (t : Bool) → (T t → m * up e * down d < n * up d * down e) → (T (not t) → n * up d * down e ≤ m * up e * down d)
        → Rnd f
        (cond t (round f true (n * up d * down e - m * up e * down d) (down e * down d))
        (round f false (m * up e * down d - n * up d * down e) (down e * down d)))
        (m * uo f e + 0) (0 + n * uo f d) (2 ^ low f)
    go true h k = under f _ (m * uo f e) (n * uo f d) (2 ^ low f) (to-units f m e n d E D (le_of_lt (h tt))) (more f m e n d E D true)
    go false h k = over f _ (m * uo f e) (n * uo f d) (2 ^ low f) (to-units f n d m e D E (k tt)) (less f m e n d E D false)
add-rnd f (fin true m e) (fin false n d) p q =
    let a = m * up e * down d in
    let b = n * up d * down e in
    go (ltb a b) (ltb b a) (ltb→lt a b) (nltb→le a b) (nltb→le b a)
  where
    E : down e ≤ 2 ^ low f
    E = low-enough f true m e p.0

    D : down d ≤ 2 ^ low f
    D = low-enough f false n d q.0

    go : (t u : Bool) → (T t → m * up e * down d < n * up d * down e) → (T (not t) → n * up d * down e ≤ m * up e * down d)
        → (T (not u) → m * up e * down d ≤ n * up d * down e)
        → Rnd f
        (cond t (round f false (n * up d * down e - m * up e * down d) (down e * down d))
        (round f (true && u) (m * up e * down d - n * up d * down e) (down e * down d)))
        (0 + n * uo f d) (m * uo f e + 0) (2 ^ low f)
    go true u h k l = over' f _ (m * uo f e) (n * uo f d) (2 ^ low f) (to-units f m e n d E D (le_of_lt (h tt))) (more f m e n d E D false)
    go false true h k l = under' f _ (m * uo f e) (n * uo f d) (2 ^ low f) (to-units f n d m e D E (k tt)) (less f m e n d E D true)
    go false false h k l =
        let A = m * uo f e in
        let B = n * uo f d in
        let L = to-units f m e n d E D (l tt) in
        over' f _ A B (2 ^ low f) L
        (less f m e n d E D false ∙ ap (λ (x : ℕ). round f false x (2 ^ low f)) (equal A B L (to-units f n d m e D E (k tt))))

-- ---- a product
times : (f : Format) (s : Bool) (m : ℕ) (e : ℤ) (n : ℕ) (d : ℤ) → down e ≤ 2 ^ low f → down d ≤ 2 ^ low f
    → round f s (m * up e * (n * up d)) (down e * down d) ≡ round f s (m * uo f e * (n * uo f d)) (2 ^ low f * 2 ^ low f)
times f s m e n d E D =
    round_same f s (m * up e * (n * up d)) (down e * down d) (m * uo f e * (n * uo f d)) (2 ^ low f * 2 ^ low f) (mul-pos (down_pos e) (down_pos d))
    (mul-pos (pow_pos (low f)) (pow_pos (low f)))
    (mul-mul-mul_comm (m * up e) (n * up d) (2 ^ low f) (2 ^ low f)
    ∙ ap (λ (x : ℕ). x * (n * up d * 2 ^ low f)) (sym (in-units f m e E))
    ∙ ap (λ (x : ℕ). m * uo f e * down e * x) (sym (in-units f n d D))
    ∙ mul-mul-mul_comm (m * uo f e) (down e) (n * uo f d) (down d))

nought : (A B : ℕ) → A * 0 + 0 * B ≡ 0
nought A B = ap (λ (x : ℕ). x + 0 * B) (mul-zero A) ∙ ap (λ (x : ℕ). 0 + x) (zero-mul B)

nought' : (A B : ℕ) → 0 * B + A * 0 ≡ 0
nought' A B = ap (λ (x : ℕ). x + A * 0) (zero-mul B) ∙ ap (λ (x : ℕ). 0 + x) (mul-zero A)

pub mul-rnd : (f : Format) (x y : Float) → Is f x → Is f y
    → Rnd f (mul f x y) (P f x * P f y + N f x * N f y) (P f x * N f y + N f x * P f y) (2 ^ low f * 2 ^ low f)
unfolding mul
mul-rnd f nan y p q = absurd p.1
mul-rnd f (inf s) y p q = absurd p.1
mul-rnd f (fin s m e) nan p q = absurd q.1
mul-rnd f (fin s m e) (inf t) p q = absurd q.1
mul-rnd f (fin false m e) (fin false n d) p q =
    let A = m * uo f e in
    let B = n * uo f d in
    let z : A * 0 + 0 * B ≡ 0 = nought A B in
    at-pos f _ (A * B + 0 * 0) (A * 0 + 0 * B) (A * B) (2 ^ low f * 2 ^ low f) (omega arith) (omega arith)
    (times f false m e n d (low-enough f false m e p.0) (low-enough f false n d q.0))
mul-rnd f (fin true m e) (fin true n d) p q =
    let A = m * uo f e in
    let B = n * uo f d in
    let z : 0 * B + A * 0 ≡ 0 = nought' A B in
    at-pos f _ (0 * 0 + A * B) (0 * B + A * 0) (A * B) (2 ^ low f * 2 ^ low f) (omega arith) (omega arith)
    (times f false m e n d (low-enough f true m e p.0) (low-enough f true n d q.0))
mul-rnd f (fin false m e) (fin true n d) p q =
    let A = m * uo f e in
    let B = n * uo f d in
    let z : A * 0 + 0 * B ≡ 0 = nought A B in
    at-neg f _ (A * 0 + 0 * B) (A * B + 0 * 0) (A * B) (2 ^ low f * 2 ^ low f) (omega arith) (omega arith)
    (times f true m e n d (low-enough f false m e p.0) (low-enough f true n d q.0))
mul-rnd f (fin true m e) (fin false n d) p q =
    let A = m * uo f e in
    let B = n * uo f d in
    let z : 0 * B + A * 0 ≡ 0 = nought' A B in
    at-neg f _ (0 * B + A * 0) (0 * 0 + A * B) (A * B) (2 ^ low f * 2 ^ low f) (omega arith) (omega arith)
    (times f true m e n d (low-enough f true m e p.0) (low-enough f false n d q.0))
