-- Where a step gives a number: a rounding is one, so only infinities, and quotients by 0, can make a not-a-number of numbers. Assumes nothing.
use mathlib.Core.Path.{◌≡◌, refl, sym, subst}
use Prim.Native.Nat.{ℕ, zero, suc, ◌+◌, ◌-◌, ◌*◌}
use native.Mathlib.Omega.{arith}
use mathlib.Core.Bool.{Bool, true, false, not, cond, ◌&&◌, beq}
use lib.Dec.{T, eqb, ltb}
use borrow.Author.Tests.{ne_eqb}
use lib.Ieee.{Float, nan, inf, fin, Format, up, down, neg, add, sub, mul, div, sum, round, unlike, is_nan}
use lib.Ieee.Positive.{positive}
use lib.Ieee.Scale.{finite}
use Rattle.binary64.specs.Steps.{abs}
use Rattle.binary64.proofs.Rounded.{Sign, round-sign}

abbrev pub Num : Float → Type 0
Num x = T (not (is_nan x))

signed-num : (s : Bool) (z : Float) → Sign s z → Num z
unfolding is_nan
signed-num s nan h = absurd h
signed-num s (inf t) h = tt
signed-num s (fin t m e) h = tt

round-num : (f : Format) (s : Bool) (a c : ℕ) → Num (round f s a c)
round-num f s a c = signed-num s (round f s a c) (round-sign f s a c)

pub finite-num : (x : Float) → T (finite x) → Num x
unfolding is_nan
finite-num nan p = absurd p
finite-num (inf s) p = absurd p
finite-num (fin s m e) p = tt

neg-num : (x : Float) → Num x → Num (neg x)
unfolding neg is_nan
neg-num nan p = p
neg-num (inf s) p = tt
neg-num (fin s m e) p = tt

neg-finite : (x : Float) → T (finite x) → T (finite (neg x))
unfolding neg
neg-finite nan p = absurd p
neg-finite (inf s) p = absurd p
neg-finite (fin s m e) p = tt

-- ---- sums and differences with one side finite
choice-num : (b : Bool) (x y : Float) → Num x → Num y → Num (cond b x y)
choice-num true x y p q = p
choice-num false x y p q = q

sum-num : (f : Format) (s : Bool) (a : ℕ) (t : Bool) (b c : ℕ) → Num (sum f s a t b c)
unfolding sum
sum-num f s a t b c =
    choice-num (beq s t) (round f s (a + b) c) (cond (ltb a b) (round f t (b - a) c) (round f (s && ltb b a) (a - b) c))
    (round-num f s (a + b) c)
    (choice-num (ltb a b) (round f t (b - a) c) (round f (s && ltb b a) (a - b) c) (round-num f t (b - a) c) (round-num f (s && ltb b a) (a - b) c))

pub add-num : (f : Format) (x y : Float) → T (finite x) → Num y → Num (add f x y)
unfolding add is_nan
add-num f nan y p q = absurd p
add-num f (inf s) y p q = absurd p
add-num f (fin s m e) nan p q = q
add-num f (fin s m e) (inf t) p q = tt
add-num f (fin s m e) (fin t n d) p q = sum-num f s (m * up e * down d) t (n * up d * down e) (down e * down d)

num-add : (f : Format) (x y : Float) → Num x → T (finite y) → Num (add f x y)
unfolding add is_nan
num-add f nan y p q = p
num-add f (inf s) nan p q = absurd q
num-add f (inf s) (inf t) p q = absurd q
num-add f (inf s) (fin t n d) p q = tt
num-add f (fin s m e) y p q = add-num f (fin s m e) y tt (finite-num y q)

pub sub-num : (f : Format) (x y : Float) → T (finite x) → Num y → Num (sub f x y)
unfolding sub
sub-num f x y p q = add-num f x (neg y) p (neg-num y q)

pub num-sub : (f : Format) (x y : Float) → Num x → T (finite y) → Num (sub f x y)
unfolding sub
num-sub f x y p q = num-add f x (neg y) p (neg-finite y q)

-- a sum with a not-a-number is one
pub add_none : (f : Format) (x : Float) → add f x nan ≡ nan
unfolding add
add_none f nan = refl
add_none f (inf s) = refl
add_none f (fin s m e) = refl

pub none-add : (f : Format) (y : Float) → add f nan y ≡ nan
unfolding add
none-add f y = refl

-- ---- products and quotients with one side finite and not 0
pub some-num : (x : Float) → T (positive (abs x)) → Num x
unfolding abs is_nan
some-num nan p = absurd p
some-num (inf s) p = absurd p
some-num (fin s m e) p = tt

infinite : (m : ℕ) (s : Bool) → Num (cond (eqb (suc m) 0) nan (inf s))
unfolding is_nan
infinite m s = subst (λ (b : Bool). Num (cond b nan (inf s))) (sym (ne_eqb (suc m) 0 (λ (h : suc m ≡ 0). omega arith))) tt

pub mul-num : (f : Format) (x y : Float) → T (positive (abs x)) → Num y → Num (mul f x y)
unfolding abs mul is_nan
mul-num f nan y p q = absurd p
mul-num f (inf s) y p q = absurd p
mul-num f (fin s zero e) y p q = absurd p
mul-num f (fin s (suc m) e) nan p q = q
mul-num f (fin s (suc m) e) (inf t) p q =
    infinite m (unlike s t)
mul-num f (fin s (suc m) e) (fin t n d) p q = round-num f (unlike s t) (suc m * up e * (n * up d)) (down e * down d)

pub div-num : (f : Format) (x y : Float) → T (positive (abs x)) → Num y → Num (div f x y)
unfolding abs div is_nan
div-num f nan y p q = absurd p
div-num f (inf s) y p q = absurd p
div-num f (fin s zero e) y p q = absurd p
div-num f (fin s (suc m) e) nan p q = q
div-num f (fin s (suc m) e) (inf t) p q = tt
div-num f (fin s (suc m) e) (fin t n d) p q =
    let r = round f (unlike s t) (suc m * up e * down d) (n * up d * down e) in
    choice-num (eqb n 0) (cond (eqb (suc m) 0) nan (inf (unlike s t))) r (infinite m (unlike s t))
    (round-num f (unlike s t) (suc m * up e * down d) (n * up d * down e))

pub num-div : (f : Format) (x y : Float) → Num x → T (positive (abs y)) → Num (div f x y)
unfolding abs div is_nan
num-div f nan y p q = p
num-div f (inf s) nan p q = absurd q
num-div f (inf s) (inf t) p q = absurd q
num-div f (inf s) (fin t n d) p q = tt
num-div f (fin s m e) nan p q = absurd q
num-div f (fin s m e) (inf t) p q = absurd q
num-div f (fin s m e) (fin t zero d) p q = absurd q
num-div f (fin s m e) (fin t (suc n) d) p q =
    subst (λ (b : Bool). Num (cond b (cond (eqb m 0) nan (inf (unlike s t))) (round f (unlike s t) (m * up e * down d) (suc n * up d * down e))))
    (sym (ne_eqb (suc n) 0 (λ (h : suc n ≡ 0). omega arith))) (round-num f (unlike s t) (m * up e * down d) (suc n * up d * down e))
