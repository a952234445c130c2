-- A fit is no rival of itself: each of its parameters less itself is 0 or no number, and so is every product with such a one and every sum
-- of such, and so its distance from itself. No such value is above the limit. Assumes nothing.
use mathlib.Core.Path.{◌≡◌, sym, ap, subst, ◌∙◌}
use mathlib.Core.Bool.{Bool, true, false, not, cond, ◌&&◌, beq}
use Prim.Native.Nat.{ℕ, zero, suc, ◌+◌, ◌-◌, ◌*◌, ◌<◌}
use native.Mathlib.Nat.{zero-lt-suc, zero-mul, mul-pos}
use native.Mathlib.Omega.{arith}
use lib.Dec.{T, ltb, ltb→lt}
use lib.ListN.{replicate}
use lib.Ieee.{Float, nan, inf, fin, Format, binary32, binary64, up, down, neg, sum, add, sub, mul, lt, round, unlike, of_bits}
use lib.Ieee.Fits.{down_pos}
use lib.Ieee.Scale.{round_same}
use Rattle.binary64.specs.Steps.{◌⊖◌, ◌⊗◌, #, nought}
use Rattle.dense.specs.Entries.{nth, dots, mul_vec}
use Rattle.problem.specs.Problem.{four}
use Rattle.limits.specs.Limits.{chi2_limit}
use Rattle.limits.proofs.Edges.{limits}
use Rattle.damped.specs.declared.Fit.{Fit}
use Rattle.best.specs.Best.{distance}

-- 0 of either sign, or no number
abbrev void : Float → Bool
void nan = true
void (inf s) = false
void (fin s zero e) = true
void (fin s (suc m) e) = false

-- ---- the steps
rounded-void : (f : Format) (s : Bool) (a c : ℕ) → a ≡ 0 → 0 < c → T (void (round f s a c))
unfolding round
rounded-void f s a c e C = subst (λ (x : Float). T (void x))
    (sym (ap (λ (x : ℕ). round f s x c) e ∙ round_same f s 0 c 0 1 C (zero-lt-suc 0) (zero-mul 1 ∙ sym (zero-mul c)))) (at f)
  where
    at : (g : Format) → T (void (round g s 0 1))
    at binary32 = tt
    at binary64 = tt

choice-void : (b : Bool) (x y : Float) → T (void x) → T (void y) → T (void (cond b x y))
choice-void true x y p q = p
choice-void false x y p q = q

sum-void : (f : Format) (s : Bool) (a : ℕ) (t : Bool) (b c : ℕ) → a ≡ 0 → b ≡ 0 → 0 < c → T (void (sum f s a t b c))
unfolding sum
sum-void f s a t b c A B C =
    choice-void (beq s t) (round f s (a + b) c) (cond (ltb a b) (round f t (b - a) c) (round f (s && ltb b a) (a - b) c))
    (rounded-void f s (a + b) c (omega arith) C)
    (choice-void (ltb a b) (round f t (b - a) c) (round f (s && ltb b a) (a - b) c)
    (rounded-void f t (b - a) c (omega arith) C) (rounded-void f (s && ltb b a) (a - b) c (omega arith) C))

none_left : (a b : ℕ) → 0 * a * b ≡ 0
none_left a b = ap (λ (x : ℕ). x * b) (zero-mul a) ∙ zero-mul b

add-void : (f : Format) (x y : Float) → T (void x) → T (void y) → T (void (add f x y))
unfolding add
add-void f nan y p q = tt
add-void f (inf s) y p q = absurd p
add-void f (fin s zero e) nan p q = tt
add-void f (fin s zero e) (inf t) p q = absurd q
add-void f (fin s zero e) (fin t zero d) p q = sum-void f s (0 * up e * down d) t (0 * up d * down e) (down e * down d)
    (none_left (up e) (down d)) (none_left (up d) (down e)) (mul-pos (down_pos e) (down_pos d))
add-void f (fin s zero e) (fin t (suc n) d) p q = absurd q
add-void f (fin s (suc m) e) y p q = absurd p

mul-void : (f : Format) (x y : Float) → T (void x) → T (void (mul f x y))
unfolding mul
mul-void f nan y p = tt
mul-void f (inf s) y p = absurd p
mul-void f (fin s zero e) nan p = tt
mul-void f (fin s zero e) (inf t) p = tt
mul-void f (fin s zero e) (fin t n d) p = rounded-void f (unlike s t) (0 * up e * (n * up d)) (down e * down d)
    (none_left (up e) (n * up d)) (mul-pos (down_pos e) (down_pos d))
mul-void f (fin s (suc m) e) y p = absurd p

-- ---- a value less itself
opposite : (f : Format) (s : Bool) (a c : ℕ) → 0 < c → T (void (sum f s a (not s) a c))
unfolding sum
opposite f true a c C = go (ltb a a) (ltb a a)
  where
    go : (b d : Bool) → T (void (cond b (round f false (a - a) c) (round f d (a - a) c)))
    go b d = choice-void b (round f false (a - a) c) (round f d (a - a) c) (rounded-void f false (a - a) c (omega arith) C)
        (rounded-void f d (a - a) c (omega arith) C)
opposite f false a c C = go (ltb a a)
  where
    go : (b : Bool) → T (void (cond b (round f true (a - a) c) (round f false (a - a) c)))
    go b = choice-void b (round f true (a - a) c) (round f false (a - a) c) (rounded-void f true (a - a) c (omega arith) C)
        (rounded-void f false (a - a) c (omega arith) C)

less-itself : (f : Format) (x : Float) → T (void (sub f x x))
unfolding sub add neg
less-itself f nan = tt
less-itself f (inf true) = tt
less-itself f (inf false) = tt
less-itself f (fin s m e) = opposite f s (m * up e * down e) (down e * down e) (mul-pos (down_pos e) (down_pos e))

-- ---- the distance
dots-void : (a b : ℕ → Float) → ((i : ℕ) → T (void (a i))) → (k : ℕ) → T (void (dots a b k))
unfolding dots of_bits
dots-void a b h zero = tt
dots-void a b h (suc k) = add-void binary64 (dots a b k) (a k ⊗ b k) (dots-void a b h k) (mul-void binary64 (a k) (b k) (h k))

four-void : (a : ℕ → Float) → ((i : ℕ) → T (void (a i))) → (i : ℕ) → T (void (nth (four a) i))
four-void a h zero = h 0
four-void a h (suc zero) = h 1
four-void a h (suc (suc zero)) = h 2
four-void a h (suc (suc (suc zero))) = h 3
four-void a h (suc (suc (suc (suc i)))) = tt

itself-void : (fit : Fit) → T (void (distance fit fit))
unfolding distance
itself-void fit =
    let less : ℕ → Float = λ i. nth fit.params i ⊖ nth fit.params i in
    dots-void (nth (four less)) (nth (mul_vec fit.information 4 (four less) (replicate 4 nought)))
    (four-void less (λ i. less-itself binary64 (nth fit.params i))) 4

-- ---- the limit
none_below : (a b c : ℕ) → T (ltb a (0 * b * c)) → ⊥
none_below a b c h = omega (arith, ltb→lt a (0 * b * c) h, none_left b c)

above-void : (x : Float) → T (void x) → T (lt (# 0x40419B69EB40A7CC) x) → ⊥
unfolding lt of_bits
above-void nan v h = h
above-void (inf s) v h = v
above-void (fin true zero e) v h = h
above-void (fin false zero e) v h = none_below _ (up e) _ h
above-void (fin s (suc m) e) v h = v

pub not_itself : (fit : Fit) → T (lt (chi2_limit 4) (distance fit fit)) → ⊥
not_itself fit h = above-void (distance fit fit) (itself-void fit)
    (subst (λ (x : Float). T (lt x (distance fit fit))) limits.1 h)
