-- A run of sums, differences and products over values that lie in intervals: it is checked by computing on the intervals' ends (`check`), and then
-- the last value lies where the last interval does (`check_sound`). Assumes nothing.
use mathlib.Core.Path.{◌≡◌, refl, subst}
use mathlib.Core.List.{List, [], ◌∷◌}
use Prim.Native.Nat.{ℕ, zero, suc}
use native.Mathlib.Nat.{le_of_eq}
use mathlib.Core.Bool.{Bool, ◌&&◌, cond}
use lib.Dec.{T}
use lib.Ieee.{Float, nan, binary64, le, fits, add, sub, mul}
use lib.Ieee.Fits.{and_l, and_r}
use lib.Ieee.Scale.{finite}
use Rattle.binary64.proofs.Units.{Is, units→le, le-trans-is}
use Rattle.binary64.proofs.Interval.{In, add-in, sub_in, mul_in}

-- a step takes earlier values by their place, the last one first, at 0
pub data Step : Type 0 where
  lit : Float → Step
  plus minus times : ℕ → ℕ → Step

abbrev pub at : List Float → ℕ → Float
at [] k = nan
at (x ∷ xs) zero = x
at (x ∷ xs) (suc k) = at xs k

abbrev pub apply : Step → Float → Float → Float
apply (lit c) x y = c
apply (plus i j) x y = add binary64 x y
apply (minus i j) x y = sub binary64 x y
apply (times i j) x y = mul binary64 x y

abbrev pub first_of : Step → ℕ
first_of (lit c) = 0
first_of (plus i j) = i
first_of (minus i j) = i
first_of (times i j) = i

abbrev pub second_of : Step → ℕ
second_of (lit c) = 0
second_of (plus i j) = j
second_of (minus i j) = j
second_of (times i j) = j

abbrev pub does : List Float → Step → Float
does xs o = apply o (at xs (first_of o)) (at xs (second_of o))

abbrev pub run : List Step → List Float → List Float
run [] xs = xs
run (o ∷ os) xs = run os (does xs o ∷ xs)

-- the same on intervals, with a test
pub data Range : Type 0 where
  range : Float → Float → Range

abbrev pub at_r : List Range → ℕ → Range
at_r [] k = range nan nan
at_r (x ∷ xs) zero = x
at_r (x ∷ xs) (suc k) = at_r xs k

abbrev pub least-of : Float → Float → Float
least-of a b = cond (le a b) a b

abbrev pub most-of : Float → Float → Float
most-of a b = cond (le a b) b a

abbrev pub ends : Float → Float → Bool
ends a b = finite a && finite b

-- what a step makes of the intervals, and whether it may
abbrev pub ranges : Step → Range → Range → Range
ranges (lit c) a b = range c c
ranges (plus i j) (range a b) (range c d) = range (add binary64 a c) (add binary64 b d)
ranges (minus i j) (range a b) (range c d) = range (sub binary64 a d) (sub binary64 b c)
ranges (times i j) (range a b) (range c d) =
    let p = mul binary64 a c in
    let q = mul binary64 a d in
    let r = mul binary64 b c in
    let s = mul binary64 b d in
    range (least-of (least-of p q) (least-of r s)) (most-of (most-of p q) (most-of r s))

abbrev pub corners : Float → Float → Float → Float → Float → Float → Bool
corners lo hi p q r s =
    (finite p && (finite q && (finite r && finite s))) && ((le lo p && (le lo q && (le lo r && le lo s))) && (le p
    hi && (le q hi && (le r hi && le s hi))))

abbrev pub passes : Step → Range → Range → Range → Bool
passes (lit c) x y (range lo hi) = fits binary64 c && finite c
passes (plus i j) (range a b) (range c d) (range lo hi) = ends a c && ends lo hi
passes (minus i j) (range a b) (range c d) (range lo hi) = ends a c && ends lo hi
passes (times i j) (range a b) (range c d) (range lo hi) =
    (ends a c && (fits binary64 lo && fits binary64 hi)) && (ends lo hi && corners lo hi (mul binary64 a c) (mul binary64 a d) (mul binary64 b c)
    (mul binary64 b d))

abbrev pub lower : Range → Float
lower (range a b) = a

abbrev pub within : Float → Float → Range → Bool
within A B (range a b) = (fits binary64 A && finite A) && ((fits binary64 B && finite B) && (le A a && le b B))

-- the run passes, and its last interval lies from A to B
abbrev pub check : Float → Float → List Step → List Range → Bool
check A B [] rs = finite (lower (at_r rs 0)) && within A B (at_r rs 0)
check A B (o ∷ os) rs =
    let a = at_r rs (first_of o) in
    let b = at_r rs (second_of o) in
    let r = ranges o a b in
    passes o a b r && check A B os (r ∷ rs)

abbrev pub InR : Range → Float → Type 0
InR (range a b) x = In binary64 a b x

abbrev pub All : List Range → List Float → Type 0
All [] xs = Unit {0}
All (r ∷ rs) [] = ⊥
All (r ∷ rs) (x ∷ xs) = InR r x × All rs xs

look : (rs : List Range) (xs : List Float) (k : ℕ) → All rs xs → T (finite (lower (at_r rs k))) → InR (at_r rs k) (at xs k)
look [] xs k a t = absurd t
look (r ∷ rs) [] k a t = absurd a
look (r ∷ rs) (x ∷ xs) zero a t = a.0
look (r ∷ rs) (x ∷ xs) (suc k) a t = look rs xs k a.1 t

self_in : (c : Float) → Is binary64 c → In binary64 c c c
self_in c p = let l : T (le c c) = units→le binary64 c c p p (le_of_eq refl) in record { lo-is = p; hi-is = p; is = p; least = l; most = l }

step-sound : (o : Step) (r q : Range) (x y : Float) → (T (finite (lower r)) → InR r x) → (T (finite (lower q)) → InR q y)
    → T (passes o r q (ranges o r q)) → InR (ranges o r q) (apply o x y)
step-sound (lit c) r q x y i j t = self_in c (and_l (fits binary64 c) (finite c) t, and_r (fits binary64 c) (finite c) t)
step-sound (plus m n) (range a b) (range c d) x y i j t =
    let lo = add binary64 a c in
    let hi = add binary64 b d in
    let u = and_l (ends a c) (ends lo hi) t in
    let v = and_r (ends a c) (ends lo hi) t in
    add-in binary64 a b x c d y (i (and_l (finite a) (finite c) u)) (j (and_r (finite a) (finite c) u)) (and_l (finite lo) (finite hi) v)
    (and_r (finite lo) (finite hi) v)
step-sound (minus m n) (range a b) (range c d) x y i j t =
    let lo = sub binary64 a d in
    let hi = sub binary64 b c in
    let u = and_l (ends a c) (ends lo hi) t in
    let v = and_r (ends a c) (ends lo hi) t in
    sub_in binary64 a b x c d y (i (and_l (finite a) (finite c) u)) (j (and_r (finite a) (finite c) u)) (and_l (finite lo) (finite hi) v)
    (and_r (finite lo) (finite hi) v)
step-sound (times m n) (range a b) (range c d) x y i j t =
    go (mul binary64 a c) (mul binary64 a d) (mul binary64 b c) (mul binary64 b d) refl refl refl refl t
  where
    go : (p q r s : Float) → p ≡ mul binary64 a c → q ≡ mul binary64 a d → r ≡ mul binary64 b c → s ≡ mul binary64 b d
        → T ((ends a c && (fits binary64 (least-of (least-of p q) (least-of r s)) && fits binary64 (most-of (most-of p q) (most-of r s)))) && (ends
        (least-of (least-of p q) (least-of r s)) (most-of (most-of p q) (most-of r s)) && corners (least-of (least-of p q) (least-of r s))
        (most-of (most-of p q) (most-of r s)) p q r s))
        → In binary64 (least-of (least-of p q) (least-of r s)) (most-of (most-of p q) (most-of r s)) (mul binary64 x y)
    go p q r s e1 e2 e3 e4 t =
        let lo = least-of (least-of p q) (least-of r s) in
        let hi = most-of (most-of p q) (most-of r s) in
        let t0 = and_l (ends a c && (fits binary64 lo && fits binary64 hi)) (ends lo hi && corners lo hi p q r s) t in
        let t1 = and_r (ends a c && (fits binary64 lo && fits binary64 hi)) (ends lo hi && corners lo hi p q r s) t in
        let u = and_l (ends a c) (fits binary64 lo && fits binary64 hi) t0 in
        let v = and_r (ends a c) (fits binary64 lo && fits binary64 hi) t0 in
        let w = and_l (ends lo hi) (corners lo hi p q r s) t1 in
        let k = and_r (ends lo hi) (corners lo hi p q r s) t1 in
        let F = finite p && (finite q && (finite r && finite s)) in
        let L = le lo p && (le lo q && (le lo r && le lo s)) in
        let H = le p hi && (le q hi && (le r hi && le s hi)) in
        let kf = and_l F (L && H) k in
        let kl = and_l L H (and_r F (L && H) k) in
        let kh = and_r L H (and_r F (L && H) k) in
        let f' = and_r (finite p) (finite q && (finite r && finite s)) kf in
        let f'' = and_r (finite q) (finite r && finite s) f' in
        let l' = and_r (le lo p) (le lo q && (le lo r && le lo s)) kl in
        let l'' = and_r (le lo q) (le lo r && le lo s) l' in
        let h' = and_r (le p hi) (le q hi && (le r hi && le s hi)) kh in
        let h'' = and_r (le q hi) (le r hi && le s hi) h' in
        mul_in binary64 a b x c d y lo hi (i (and_l (finite a) (finite c) u)) (j (and_r (finite a) (finite c) u))
        (and_l (fits binary64 lo) (fits binary64 hi) v, and_l (finite lo) (finite hi) w)
        (and_r (fits binary64 lo) (fits binary64 hi) v, and_r (finite lo) (finite hi) w)
        (subst (λ (z : Float). T (finite z)) e1 (and_l (finite p) (finite q && (finite r && finite s)) kf))
        (subst (λ (z : Float). T (finite z)) e2 (and_l (finite q) (finite r && finite s) f'))
        (subst (λ (z : Float). T (finite z)) e3 (and_l (finite r) (finite s) f''))
        (subst (λ (z : Float). T (finite z)) e4 (and_r (finite r) (finite s) f''))
        (subst (λ (z : Float). T (le lo z)) e1 (and_l (le lo p) (le lo q && (le lo r && le lo s)) kl))
        (subst (λ (z : Float). T (le lo z)) e2 (and_l (le lo q) (le lo r && le lo s) l'))
        (subst (λ (z : Float). T (le lo z)) e3 (and_l (le lo r) (le lo s) l''))
        (subst (λ (z : Float). T (le lo z)) e4 (and_r (le lo r) (le lo s) l''))
        (subst (λ (z : Float). T (le z hi)) e1 (and_l (le p hi) (le q hi && (le r hi && le s hi)) kh))
        (subst (λ (z : Float). T (le z hi)) e2 (and_l (le q hi) (le r hi && le s hi) h'))
        (subst (λ (z : Float). T (le z hi)) e3 (and_l (le r hi) (le s hi) h''))
        (subst (λ (z : Float). T (le z hi)) e4 (and_r (le r hi) (le s hi) h''))

last-sound : (A B : Float) (r : Range) (x : Float) → InR r x → T (within A B r) → In binary64 A B x
last-sound A B (range a b) x i t =
    let u = and_l (fits binary64 A && finite A) ((fits binary64 B && finite B) && (le A a && le b B)) t in
    let v = and_r (fits binary64 A && finite A) ((fits binary64 B && finite B) && (le A a && le b B)) t in
    let w = and_l (fits binary64 B && finite B) (le A a && le b B) v in
    let k = and_r (fits binary64 B && finite B) (le A a && le b B) v in
    let p : Is binary64 A = (and_l (fits binary64 A) (finite A) u, and_r (fits binary64 A) (finite A) u) in
    let q : Is binary64 B = (and_l (fits binary64 B) (finite B) w, and_r (fits binary64 B) (finite B) w) in
    record {
      lo-is = p;
      hi-is = q;
      is = i.is;
      least = le-trans-is binary64 A a x p i.lo-is i.is (and_l (le A a) (le b B) k) i.least;
      most = le-trans-is binary64 x b B i.is i.hi-is q i.most (and_r (le A a) (le b B) k);
    }

pub check_sound : (A B : Float) (os : List Step) (rs : List Range) (xs : List Float) → All rs xs → T (check A B os rs)
    → In binary64 A B (at (run os xs) 0)
check_sound A B [] rs xs a t =
    last-sound A B (at_r rs 0) (at xs 0) (look rs xs 0 a (and_l (finite (lower (at_r rs 0))) (within A B (at_r rs 0)) t))
    (and_r (finite (lower (at_r rs 0))) (within A B (at_r rs 0)) t)
check_sound A B (o ∷ os) rs xs a t =
    let r = at_r rs (first_of o) in
    let q = at_r rs (second_of o) in
    let w = ranges o r q in
    check_sound A B os (w ∷ rs) (does xs o ∷ xs) (
      step-sound o r q (at xs (first_of o)) (at xs (second_of o)) (look rs xs (first_of o) a) (look rs xs (second_of o) a)
          (and_l (passes o r q w) (check A B os (w ∷ rs)) t),
      a,
    )
    (and_r (passes o r q w) (check A B os (w ∷ rs)) t)
