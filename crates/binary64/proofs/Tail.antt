-- How far a rounding is from the exact value, for a value below 1 in size: 2 ^ (low - prec) units at most. So r - (r - w), with both differences
-- rounded, is within that of w. Assumes nothing.
use mathlib.Core.Path.{◌≡◌, refl, sym, ap, ◌∙◌, subst}
use mathlib.Core.Logic.{◌⊎◌, inl, inr}
use Prim.Native.Nat.{ℕ, suc, ◌+◌, ◌-◌, ◌*◌, ◌/◌, ◌%◌, ◌^◌, ◌≤◌, ◌<◌, compare, Ordering}
use native.Mathlib.Nat.{le_trans, le_of_eq, mul_comm, mul_assoc, mul_left_comm, mul_right_comm, le_of_mul-le-mul_right, mul-pos, mul-div_cancel}
use native.Mathlib.Nat.{div-add-mod', mod-lt, eq_of_mul-eq-mul_right, add-mul, suc-mul, eq-or-lt_of_le}
use native.Mathlib.Omega.{arith}
use mathlib.Core.Bool.{true, false, true≢false}
use lib.Dec.{T}
use lib.Pow.{pow_pos, pow_mono}
use lib.Ieee.{Float, nan, inf, fin, Format, prec, low, size, nearest, round, le, neg, add, sub, down, fits}
use lib.Ieee.Digits.{size-le}
use lib.Ieee.Fits.{round-fits, add-fits, down_pos}
use lib.Ieee.Exact.{HasValue}
use lib.Ieee.Nearest.{closest}
use lib.Ieee.Order.{drop}
use lib.Ieee.Scale.{finite, grid, round_val, round_under}
use Rattle.binary64.proofs.RootLaw.{Cmp, cmp}
use Rattle.binary64.proofs.Units.{Is, P, N, uo, in-units, low-enough, le→units}
use Rattle.binary64.proofs.Rounded.{Rnd, rnd-mono, add-rnd, round-neg}
use Rattle.binary64.proofs.Interval.{In, neg_is, finite-between}

-- ---- the nearest multiple is at most half a step away: wb is w * b
near : (w b wb r : ℕ) (o : Ordering) → wb ≡ w * b → Cmp o (r * 2) b → r < b
    → (nearest w o * b * 2 ≤ (wb + r) * 2 + b) × ((wb + r) * 2 ≤ nearest w o * b * 2 + b)
near w b wb r Ordering.lt e c l = (omega arith, omega arith)
near w b wb r Ordering.gt e c l = let s : suc w * b ≡ w * b + b = suc-mul w b in (omega arith, omega arith)
near w b wb r Ordering.eq e c l = go (w % 2) (bit w)
  where
    bit : (w : ℕ) → (w % 2 ≡ 1) ⊎ (w % 2 < 1)
    bit w = eq-or-lt_of_le (omega arith)

    go : (t : ℕ) → (t ≡ 1) ⊎ (t < 1) → ((w + t) * b * 2 ≤ (wb + r) * 2 + b) × ((wb + r) * 2 ≤ (w + t) * b * 2 + b)
    go t (inr z) = let s : (w + t) * b ≡ w * b = ap (λ (x : ℕ). x * b) (none w t z) in (omega arith, omega arith)
      where
        none : (w t : ℕ) → t < 1 → w + t ≡ w
        none w t h = omega arith
    go t (inl z) = let s : (w + t) * b ≡ w * b + b = ap (λ (x : ℕ). x * b) (one w t z) ∙ suc-mul w b in (omega arith, omega arith)
      where
        one : (w t : ℕ) → t ≡ 1 → w + t ≡ suc w
        one w t h = omega arith

closest-near : (a b : ℕ) → 0 < b → (closest a b * b * 2 ≤ a * 2 + b) × (a * 2 ≤ closest a b * b * 2 + b)
closest-near a b B =
    subst (λ (x : ℕ). (closest a b * b * 2 ≤ x * 2 + b) × (x * 2 ≤ closest a b * b * 2 + b)) (div-add-mod' a b)
    (near (a / b) b (a / b * b) (a % b) (compare (a % b * 2) b) refl (cmp (a % b * 2) b) (mod-lt a B))

-- ---- `round` of a / 2 ^ low, for an a below 2 ^ low
abbrev pub slack : Format → ℕ
slack f = 2 ^ (low f - prec f)

small-drop : (z p l : ℕ) → z ≤ l → z - p ≤ l - p
small-drop z p l h = omega arith

grid-near : (f : Format) (a : ℕ) → a < 2 ^ low f → (grid f a (2 ^ low f) * 2 ≤ a * 2 + slack f) × (a * 2 ≤ grid f a (2 ^ low f) * 2 + slack f)
grid-near f a h =
    let L = 2 ^ low f in
    let k = drop (prec f) (a * L) L in
    let K : k ≤ low f - prec f = small-drop (size (a * L / L)) (prec f) (low f)
    (size-le (a * L / L) (low f) (subst (λ (x : ℕ). x < L) (sym (mul-div_cancel a (pow_pos (low f)))) h)) in
    let S : 2 ^ k ≤ slack f = pow_mono K in
    let c = closest (a * L) (L * 2 ^ k) in
    let n = closest-near (a * L) (L * 2 ^ k) (mul-pos (pow_pos (low f)) (pow_pos k)) in
    let e1 : c * (L * 2 ^ k) * 2 ≡ c * 2 ^ k * 2 * L = simp (mul_assoc, mul_comm, mul_left_comm) in
    let e2 : a * L * 2 + L * 2 ^ k ≡ (a * 2 + 2 ^ k) * L = ap (λ (x : ℕ). x + L * 2 ^ k) (mul_right_comm a L 2)
    ∙ ap (λ (x : ℕ). a * 2 * L + x) (mul_comm L (2 ^ k)) ∙ sym (add-mul (a * 2) (2 ^ k) L) in
    let e3 : c * (L * 2 ^ k) * 2 + L * 2 ^ k ≡ (c * 2 ^ k * 2 + 2 ^ k) * L = ap (λ (x : ℕ). x + L * 2 ^ k) e1
    ∙ ap (λ (x : ℕ). c * 2 ^ k * 2 * L + x) (mul_comm L (2 ^ k)) ∙ sym (add-mul (c * 2 ^ k * 2) (2 ^ k) L) in
    let u : c * 2 ^ k * 2 ≤ a * 2 + 2 ^ k = le_of_mul-le-mul_right (le_trans (le_of_eq (sym e1)) (le_trans n.0 (le_of_eq e2))) (pow_pos (low f)) in
    let v : a * 2 ≤ c * 2 ^ k * 2 + 2 ^ k =
    le_of_mul-le-mul_right (le_trans (le_of_eq (mul_right_comm a 2 L)) (le_trans n.1 (le_of_eq e3))) (pow_pos (low f)) in
    weaker (c * 2 ^ k) a (2 ^ k) (slack f) S u v
  where
    weaker : (g a k s : ℕ) → k ≤ s → g * 2 ≤ a * 2 + k → a * 2 ≤ g * 2 + k → (g * 2 ≤ a * 2 + s) × (a * 2 ≤ g * 2 + s)
    weaker g a k s h u v = (omega arith, omega arith)

-- ---- units of a value that is known
pub val-units : (f : Format) (z : Float) (A : ℕ) → T (fits f z) → HasValue z false A (2 ^ low f) → (P f z ≡ A) × (N f z ≡ 0)
val-units f nan A p h = absurd h
val-units f (inf s) A p h = absurd h
val-units f (fin true m e) A p h = absurd (true≢false h.0)
val-units f (fin false m e) A p h =
    (eq_of_mul-eq-mul_right (down e) (down_pos e) (m * uo f e) A (in-units f m e (low-enough f false m e p) ∙ h.1), refl)

pub neg-units : (f : Format) (z : Float) → (P f (neg z) ≡ N f z) × (N f (neg z) ≡ P f z)
unfolding neg
neg-units f nan = (refl, refl)
neg-units f (inf s) = (refl, refl)
neg-units f (fin true m e) = (refl, refl)
neg-units f (fin false m e) = (refl, refl)

neg-finite' : (z : Float) → T (finite (neg z)) → T (finite z)
unfolding neg
neg-finite' nan p = absurd p
neg-finite' (inf s) p = absurd p
neg-finite' (fin s m e) p = tt

round-units : (f : Format) (a : ℕ) → T (finite (round f false a (2 ^ low f)))
    → (P f (round f false a (2 ^ low f)) ≡ grid f a (2 ^ low f)) × (N f (round f false a (2 ^ low f)) ≡ 0)
round-units f a t = val-units f (round f false a (2 ^ low f)) (grid f a (2 ^ low f)) (round-fits f false a (2 ^ low f))
    (round_val f a (2 ^ low f) (round_under f a (2 ^ low f) t))

-- ---- a rounding is near the exact value
abbrev Near : Format → Float → ℕ → ℕ → Type 0
Near f z p n = (P f z + n ≤ N f z + p + slack f) × (N f z + p ≤ P f z + n + slack f)

close : (P N p n g s : ℕ) → n ≤ p → P ≡ g → N ≡ 0 → g * 2 ≤ (p - n) * 2 + s → (p - n) * 2 ≤ g * 2 + s → (P + n ≤ N + p + s) × (N + p ≤ P + n + s)
close P N p n g s h a b u v = (omega arith, omega arith)

gap : (p n l : ℕ) → p < n + l → 0 < l → p - n < l
gap p n l h z = omega arith

rnd-near : (f : Format) (z : Float) (p n : ℕ) → T (finite z) → Rnd f z p n (2 ^ low f) → p < n + 2 ^ low f → n < p + 2 ^ low f → Near f z p n
rnd-near f z p n t (inl r) h k =
    let a = p - n in
    let y = round f false a (2 ^ low f) in
    let g = grid-near f a (gap p n (2 ^ low f) h (pow_pos (low f))) in
    subst (λ (w : Float). Near f w p n) (sym r.1)
    (let u = round-units f a (subst (λ (w : Float). T (finite w)) r.1 t) in
    close (P f y) (N f y) p n (grid f a (2 ^ low f)) (slack f) r.0 u.0 u.1 g.0 g.1)
rnd-near f z p n t (inr r) h k =
    let a = n - p in
    let y = round f false a (2 ^ low f) in
    let e : z ≡ neg y = r.1 ∙ round-neg f a (2 ^ low f) in
    let g = grid-near f a (gap n p (2 ^ low f) k (pow_pos (low f))) in
    let u = round-units f a (neg-finite' y (subst (λ (w : Float). T (finite w)) e t)) in
    let v = neg-units f y in
    let w = close (P f y) (N f y) n p (grid f a (2 ^ low f)) (slack f) r.0 u.0 u.1 g.0 g.1 in
    subst (λ (w : Float). Near f w p n) (sym e) (turn (P f y) (N f y) (P f (neg y)) (N f (neg y)) p n (slack f) v.0 v.1 w.0 w.1)
  where
    turn : (a b a' b' p n s : ℕ) → a' ≡ b → b' ≡ a → a + p ≤ b + n + s → b + n ≤ a + p + s → (a' + n ≤ b' + p + s) × (b' + p ≤ a' + n + s)
    turn a b a' b' p n s e e' u v = (omega arith, omega arith)

-- ---- r - (r - w) is near w
-- h is a value of `slack` units at least
pub tail-in : (f : Format) (r w wl wh h : Float) → Is f r → In f wl wh w → Is f h → slack f ≤ P f h → N f h ≡ 0
    → T (finite (sub f r w)) → P f r + N f w < N f r + P f w + 2 ^ low f → N f r + P f w < P f r + N f w + 2 ^ low f
    → T (finite (sub f wl h)) → T (finite (add f wh h)) → In f (sub f wl h) (add f wh h) (sub f r (sub f r w))
unfolding sub
tail-in f r w wl wh h R i H S Z t a b lo hi =
    let y = add f r (neg w) in
    let Y : Is f y = (add-fits f r (neg w), t) in
    let v = neg-units f w in
    let vy = neg-units f y in
    let vh = neg-units f h in
    let W : Is f w = i.is in
    let n = near-pair (P f (neg w)) (N f w) (N f (neg w)) (P f w) v.0 v.1
    (rnd-near f y (P f r + P f (neg w)) (N f r + N f (neg w)) t (add-rnd f r (neg w) R (neg_is f w W))
    (step1 (P f r) (N f r) (P f (neg w)) (N f (neg w)) (P f w) (N f w) (2 ^ low f) v.0 v.1 a)
    (step2 (P f r) (N f r) (P f (neg w)) (N f (neg w)) (P f w) (N f w) (2 ^ low f) v.0 v.1 b)) in
    let z = add-rnd f r (neg y) R (neg_is f y Y) in
    let l : T (le (add f wl (neg h)) (add f r (neg y))) =
    rnd-mono f (add f wl (neg h)) (add f r (neg y)) (P f wl + P f (neg h)) (N f wl + N f (neg h)) (P f r + P f (neg y)) (N f r + N f (neg y))
    (2 ^ low f) (pow_pos (low f)) (add-rnd f wl (neg h) i.lo-is (neg_is f h H)) z
    (under (P f wl) (N f wl) (P f w) (N f w) (P f h) (N f h) (P f (neg h)) (N f (neg h)) (P f r) (N f r) (P f y) (N f y) (P f (neg y)) (N f (neg y))
    (slack f) vh.0 vh.1 vy.0 vy.1 Z S (le→units f wl w i.lo-is W i.least) n.0) in
    let u : T (le (add f r (neg y)) (add f wh h)) =
    rnd-mono f (add f r (neg y)) (add f wh h) (P f r + P f (neg y)) (N f r + N f (neg y)) (P f wh + P f h) (N f wh + N f h) (2 ^ low f)
    (pow_pos (low f)) z (add-rnd f wh h i.hi-is H)
    (over (P f wh) (N f wh) (P f w) (N f w) (P f h) (N f h) (P f r) (N f r) (P f y) (N f y) (P f (neg y)) (N f (neg y)) (slack f) vy.0 vy.1 Z S
    (le→units f w wh W i.hi-is i.most) n.1) in
    record {
      lo-is = (add-fits f wl (neg h), lo);
      hi-is = (add-fits f wh h, hi);
      is = (add-fits f r (neg y), finite-between (add f wl (neg h)) (add f r (neg y)) (add f wh h) lo hi l u);
      least = l;
      most = u;
    }
  where
    step1 : (r r' v v' w w' l : ℕ) → v ≡ w' → v' ≡ w → r + w' < r' + w + l → r + v < r' + v' + l
    step1 r r' v v' w w' l e e' h = omega arith

    step2 : (r r' v v' w w' l : ℕ) → v ≡ w' → v' ≡ w → r' + w < r + w' + l → r' + v' < r + v + l
    step2 r r' v v' w w' l e e' h = omega arith

    near-pair : (p p' q q' : ℕ) → p ≡ p' → q ≡ q' → Near f (add f r (neg w)) (P f r + p) (N f r + q)
        → Near f (add f r (neg w)) (P f r + p') (N f r + q')
    near-pair p p' q q' e e' h = subst (λ (x : ℕ). Near f (add f r (neg w)) (P f r + x) (N f r + q')) e
        (subst (λ (x : ℕ). Near f (add f r (neg w)) (P f r + p) (N f r + x)) e' h)

    under : (l l' w w' h h' nh nh' r r' y y' ny ny' s : ℕ) → nh ≡ h' → nh' ≡ h → ny ≡ y' → ny' ≡ y → h' ≡ 0 → s ≤ h → l + w' ≤ w + l'
        → y + (r' + w) ≤ y' + (r + w') + s → l + nh + (r' + ny') ≤ r + ny + (l' + nh')
    under l l' w w' h h' nh nh' r r' y y' ny ny' s e1 e2 e3 e4 z S a b = omega arith

    over : (u u' w w' h h' r r' y y' ny ny' s : ℕ) → ny ≡ y' → ny' ≡ y → h' ≡ 0 → s ≤ h → w + u' ≤ u + w' → y' + (r + w') ≤ y + (r' + w) + s
        → r + ny + (u' + h') ≤ u + h + (r' + ny')
    over u u' w w' h h' r r' y y' ny ny' s e3 e4 z S a b = omega arith
