-- A place within 600,000 m of one site is a finite way from every other: sites lie within 10^7 m of the centre on each axis, so the place lies within
-- 10^8, or a square alone would be beyond its range. Assumes nothing.
use mathlib.Core.Path.{◌≡◌, refl, sym, ap, subst, ◌∙◌}
use mathlib.Core.Logic.{inl, inr}
use mathlib.Core.Bool.{Bool, true, false, cond, ◌&&◌}
use mathlib.Core.List.{List, [], ◌∷◌}
use Prim.Native.Nat.{ℕ, zero, suc, ◌+◌, ◌*◌, ◌^◌, ◌≤◌, ◌<◌}
use native.Mathlib.Nat.{le_trans, mul-le-mul, le-add_right, eq-zero-or-pos}
use native.Mathlib.Omega.{arith}
use lib.Dec.{T, leb, eqb, ltb→lt, leb→le}
use lib.IntN.{ℤ, pos, negsuc}
use lib.Pow.{pow_pos}
use lib.Ieee.{Float, nan, inf, fin, binary64, low, up, down, round, neg, add, sub, mul, div, le, fits, of_int, of_bits}
use lib.Ieee.Fits.{and_l, round-fits, add-fits, mul-fits}
use lib.Ieee.Order.{round_mono}
use lib.Ieee.Scale.{finite}
use Rattle.binary64.specs.Steps.{◌⊕◌, ◌⊖◌, ◌⊗◌, ◌⊘◌, #, one, decimal}
use Rattle.binary64.specs.Root.{root}
use Rattle.binary64.specs.Meaning.{IsBinary64, HasUnits}
use Rattle.binary64.proofs.Clear.{clear, add-clear, square-clear}
use Rattle.binary64.proofs.Finite.{add-finite, sub-finite, mul-finite, root-under}
use Rattle.binary64.proofs.Interval.{In, le_total, neg_is, neg-in, finite-between}
use Rattle.binary64.proofs.Meaning.{root-nearest, root-elsewhere}
use Rattle.binary64.proofs.Order.{holds, neg-neg, weak}
use Rattle.binary64.proofs.Own.{sum-above, product-above, no_minus, more-units}
use Rattle.binary64.proofs.Quotient.{ratio-in}
use Rattle.binary64.proofs.RootBounds.{value-finite}
use Rattle.binary64.proofs.Rounded.{neg-anti, round-neg, rnd-mono, add-rnd}
use Rattle.binary64.proofs.Runs.{minus, times, plus, range, check, check_sound}
use Rattle.binary64.proofs.Units.{Is, P, N, in-units, low-enough, le→units, le-trans-is}
use Rattle.geo.specs.Geo.{metres}
use Rattle.dense.specs.Entries.{nth}
use Rattle.linalg.specs.Vec3 as vec3
use Rattle.problem.specs.Problem as problem
use Rattle.problem.specs.Problem.{site_at}
use Rattle.inputs.specs.Domain.{good_coordinate}
use Rattle.best.specs.Plausible.{max_range_m}
use Rattle.best.proofs.Squares.{near-is}

-- ---- a coordinate of a site, in metres
abbrev thousand : Float
thousand = decimal 1000 0

abbrev most : Float
most = decimal 10000000000 0

-- the outermost coordinate, of a site and of a place near one
abbrev pub edge : Float
edge = decimal 10000000 0

abbrev pub far : Float
far = decimal 100000000 0

from_one : (n : ℕ) → 0 < n → n ≤ 10000000000 → In binary64 one most (round binary64 false n 1)
unfolding round fits of_bits
from_one n h k =
    let l : T (le one (round binary64 false n 1)) = round_mono binary64 1 1 n 1 (omega arith) (omega arith) (omega arith) in
    let m : T (le (round binary64 false n 1) most) = round_mono binary64 n 1 10000000000 1 (omega arith) (omega arith) (omega arith) in
    record {
      lo-is = (tt, tt);
      hi-is = (tt, tt);
      is = (round-fits binary64 false n 1, finite-between one (round binary64 false n 1) most tt tt l m);
      least = l;
      most = m;
    }

upper_in : (n : ℕ) → n ≤ 10000000000 → In binary64 (neg edge) edge (round binary64 false n 1 ⊘ thousand)
unfolding round div neg le fits of_bits
upper_in zero k = record { lo-is = (tt, tt); hi-is = (tt, tt); is = (tt, tt); least = tt; most = tt }
upper_in (suc n) k =
    let t : In binary64 thousand thousand thousand = record { lo-is = (tt, tt); hi-is = (tt, tt); is = (tt, tt); least = tt; most = tt } in
    weak (neg edge) edge (one ⊘ thousand) (most ⊘ thousand) (round binary64 false (suc n) 1 ⊘ thousand) (tt, tt) (tt, tt) tt tt
    (ratio-in one most (round binary64 false (suc n) 1) thousand thousand thousand (from_one (suc n) (omega arith) k) t tt tt tt tt)

flips
    : (b c : Bool) (A C : ℕ)
    → cond b (cond c nan (inf true)) (round binary64 true A C) ≡ neg (cond b (cond c nan (inf false)) (round binary64 false A C))
unfolding neg
flips true true A C = refl
flips true false A C = refl
flips false c A C = round-neg binary64 A C

flips-back
    : (b c : Bool) (A C : ℕ)
    → cond b (cond c nan (inf false)) (round binary64 false A C) ≡ neg (cond b (cond c nan (inf true)) (round binary64 true A C))
flips-back b c A C = sym (ap neg (flips b c A C) ∙ neg-neg (cond b (cond c nan (inf false)) (round binary64 false A C)))

turned : (v k : Float) → neg v ⊘ k ≡ neg (v ⊘ k)
unfolding div neg
turned nan k = refl
turned (inf true) nan = refl
turned (inf false) nan = refl
turned (inf true) (inf t) = refl
turned (inf false) (inf t) = refl
turned (inf true) (fin true n d) = refl
turned (inf true) (fin false n d) = refl
turned (inf false) (fin true n d) = refl
turned (inf false) (fin false n d) = refl
turned (fin true m e) nan = refl
turned (fin false m e) nan = refl
turned (fin true m e) (inf true) = refl
turned (fin true m e) (inf false) = refl
turned (fin false m e) (inf true) = refl
turned (fin false m e) (inf false) = refl
turned (fin true m e) (fin true n d) = flips (eqb n 0) (eqb m 0) (m * up e * down d) (n * up d * down e)
turned (fin true m e) (fin false n d) = flips-back (eqb n 0) (eqb m 0) (m * up e * down d) (n * up d * down e)
turned (fin false m e) (fin true n d) = flips-back (eqb n 0) (eqb m 0) (m * up e * down d) (n * up d * down e)
turned (fin false m e) (fin false n d) = flips (eqb n 0) (eqb m 0) (m * up e * down d) (n * up d * down e)

pub metres-in : (z : ℤ) → good_coordinate z ≡ true → In binary64 (neg edge) edge (metres z)
unfolding metres of_int
metres-in (pos n) h = upper_in n (leb→le n 10000000000 (holds (leb n 10000000000) h))
metres-in (negsuc n) h =
    let l : n ≤ 9999999999 = leb→le n 9999999999 (and_l (leb n 9999999999) true (holds (leb n 9999999999 && true) h)) in
    let k : suc n ≤ 10000000000 = omega arith in
    let i = neg-in binary64 (neg edge) edge (round binary64 false (suc n) 1 ⊘ thousand) (upper_in (suc n) k) in
    subst (In binary64 (neg edge) edge)
    (sym (ap (λ (v : Float). v ⊘ thousand) (round-neg binary64 (suc n) 1) ∙ turned (round binary64 false (suc n) 1) thousand))
    (subst (λ (v : Float). In binary64 (neg edge) v (neg (round binary64 false (suc n) 1 ⊘ thousand))) (neg-neg edge) i)

-- ---- a sum of squares is no less than each
clear-units : (v : Float) → T (clear v) → N binary64 v ≡ 0
clear-units nan h = refl
clear-units (inf s) h = refl
clear-units (fin true m e) h = absurd h
clear-units (fin false m e) h = refl

first-least : (a b : Float) → IsBinary64 a → IsBinary64 b → T (clear a) → T (clear b) → T (finite (a ⊕ b)) → T (le a (a ⊕ b)) × T (le b (a ⊕ b))
first-least a b f g c d h =
    let i = add-finite binary64 a b h in (
      sum-above a a b (f, i.0) (f, i.0) (g, i.1) (clear-units a c) (clear-units b d) (le-add_right (P binary64 a) (P binary64 b)),
      sum-above b a b (g, i.1) (f, i.0) (g, i.1) (clear-units a c) (clear-units b d) (omega arith),
    )

-- ---- a difference of 9 * 10^7 or more has a square that is more
abbrev wide : Float
wide = decimal 90000000 0

abbrev squared : Float
squared = decimal 8100000000000000 0

-- 600,000² and a little more: the squares that a range of 600,000 m allows
abbrev reach : Float
reach = # 0x4254F46B04000001

big-square : (v : Float) → Is binary64 v → T (le wide v) → T (le squared (v ⊗ v))
unfolding round fits
big-square v p l =
    let m = more-units wide v (tt, tt) p l (ltb→lt 0 (P binary64 wide) tt) in
    product-above squared v v (tt, tt) p p refl (no_minus v m.1) (no_minus v m.1)
    (le_trans (leb→le (P binary64 squared * 2 ^ low binary64) (P binary64 wide * P binary64 wide) tt) (mul-le-mul m.0 m.0))

turned-square : (v : Float) → neg v ⊗ neg v ≡ v ⊗ v
unfolding neg mul
turned-square nan = refl
turned-square (inf true) = refl
turned-square (inf false) = refl
turned-square (fin true m e) = refl
turned-square (fin false m e) = refl

add-mono
    : (x x' y y' : Float) → Is binary64 x → Is binary64 x' → Is binary64 y → Is binary64 y' → T (le x x') → T (le y y')
    → T (le (x ⊕ y) (x' ⊕ y'))
add-mono x x' y y' p p' q q' h k =
    let f = binary64 in
    rnd-mono f (x ⊕ y) (x' ⊕ y') (P f x + P f y) (N f x + N f y) (P f x' + P f y') (N f x' + N f y') (2 ^ low f) (pow_pos (low f))
    (add-rnd f x y p q) (add-rnd f x' y' p' q')
    (both (P f x) (N f x) (P f x') (N f x') (P f y) (N f y) (P f y') (N f y') (le→units f x x' p p' h) (le→units f y y' q q' k))
  where
    both : (a b a' b' c d c' d' : ℕ) → a + b' ≤ a' + b → c + d' ≤ c' + d → a + c + (b' + d') ≤ a' + c' + (b + d)
    both a b a' b' c d c' d' h k = omega arith

far-is : Is binary64 far
unfolding round fits
far-is = (tt, tt)

too_wide : (q : Float) → Is binary64 q → T (le squared q) → T (le q reach) → ⊥
unfolding round fits of_bits le
too_wide q p h k = le-trans-is binary64 squared q reach (tt, tt) p (tt, tt) h k

module _ (x s : Float) (p : Is binary64 x) (i : In binary64 (neg edge) edge s) (h : T (le ((x ⊖ s) ⊗ (x ⊖ s)) reach)) where
  square-is : T (finite ((x ⊖ s) ⊗ (x ⊖ s))) → Is binary64 ((x ⊖ s) ⊗ (x ⊖ s))
  square-is f = (mul-fits binary64 (x ⊖ s) (x ⊖ s), f)

  not-high : T (finite ((x ⊖ s) ⊗ (x ⊖ s))) → T (le far x) → ⊥
  unfolding sub round neg add
  not-high f l =
      let d : Is binary64 (x ⊖ s) = (add-fits binary64 x (neg s), (mul-finite binary64 (x ⊖ s) (x ⊖ s) f).0) in
      let e = add-mono far x (neg edge) (neg s) far-is p i.lo-is (neg_is binary64 s i.is) l (neg-anti s edge i.most) in
      too_wide ((x ⊖ s) ⊗ (x ⊖ s)) (square-is f) (big-square (x ⊖ s) d e) h

  not_low : T (finite ((x ⊖ s) ⊗ (x ⊖ s))) → T (le x (neg far)) → ⊥
  unfolding sub round neg add
  not_low f l =
      let d : Is binary64 (x ⊖ s) = (add-fits binary64 x (neg s), (mul-finite binary64 (x ⊖ s) (x ⊖ s) f).0) in
      let e : T (le (x ⊖ s) (neg wide)) =
      add-mono x (neg far) (neg s) edge p (neg_is binary64 far far-is) (neg_is binary64 s i.is) i.hi-is l (less s i.least) in
      too_wide ((x ⊖ s) ⊗ (x ⊖ s)) (square-is f)
      (subst (λ (v : Float). T (le squared v)) (turned-square (x ⊖ s))
      (big-square (neg (x ⊖ s)) (neg_is binary64 (x ⊖ s) d) (neg-anti (x ⊖ s) (neg wide) e))) h
    where
      less : (s : Float) → T (le (neg edge) s) → T (le (neg s) edge)
      less s k = subst (λ (v : Float). T (le (neg s) v)) (neg-neg edge) (neg-anti (neg edge) s k)

  pub place_in : T (finite ((x ⊖ s) ⊗ (x ⊖ s))) → In binary64 (neg far) far x
  place_in f = record {
    lo-is = neg_is binary64 far far-is;
    hi-is = far-is;
    is = p;
    least = elim (le_total binary64 (neg far) x (neg_is binary64 far far-is) p) [ inl k ↦ k | inr k ↦ absurd (not_low f k) ];
    most = elim (le_total binary64 x far p far-is) [ inl k ↦ k | inr k ↦ absurd (not-high f k) ];
  }

-- ---- a range is finite
root-finite : (v : Float) → Is binary64 v → T (clear v) → T (finite (root v))
root-finite nan p c = absurd c
root-finite (inf s) p c = absurd p.1
root-finite (fin true m e) p c = absurd c
root-finite (fin false m e) p c = go (P binary64 v) (refl, sym (in-units binary64 m e (low-enough binary64 false m e p.0)))
  where
    v : Float
    v = fin false m e

    go : (a : ℕ) → HasUnits v false a → T (finite (root v))
    go a u = elim (eq-zero-or-pos a) [
      | inl z ↦ subst (λ (w : Float). T (finite w)) (sym (root-elsewhere.zeros v false (subst (HasUnits v false) z u))) tt
      | inr h ↦ let nr = (root-nearest v a p.0 u h).0 in value-finite (root v) nr.r nr.value
    ]

-- the square of a difference of a place and a site
square-passes
    : T (check (neg (decimal 20000000000000000 0)) (decimal 20000000000000000 0) (minus 0 1 ∷ times 0 0 ∷ [])
    (range (neg far) far ∷ range (neg edge) edge ∷ []))
unfolding round neg sub add mul le fits
square-passes = tt

sum-passes
    : T (check (neg (decimal 60000000000000000 0)) (decimal 60000000000000000 0) (plus 0 1 ∷ plus 0 3 ∷ [])
    (range (neg (decimal 20000000000000000 0)) (decimal 20000000000000000 0) ∷ range (neg (decimal 20000000000000000 0)) (decimal 20000000000000000 0)
    ∷ range (neg (decimal 20000000000000000 0)) (decimal 20000000000000000 0) ∷ []))
unfolding round neg sub add mul le fits
sum-passes = tt

clear-square : (v : Float) → T (finite v) → T (clear (v ⊗ v))
clear-square v h = elim (square-clear binary64 v) [ inl c ↦ c | inr e ↦ absurd (subst (λ (w : Float). T (finite w)) e h) ]

limit_is : max_range_m ≡ # 0x41224F8000000000
unfolding max_range_m round of_bits
limit_is = refl

limit-finite : T (finite max_range_m)
unfolding max_range_m round
limit-finite = tt

abbrev InEdge : Float → Type 0
InEdge v = In binary64 (neg edge) edge v

abbrev square : ℕ → List Float → List Float → Float
square k x s = (nth x k ⊖ nth s k) ⊗ (nth x k ⊖ nth s k)

square-in : (v w : Float) → In binary64 (neg far) far v → InEdge w
    → In binary64 (neg (decimal 20000000000000000 0)) (decimal 20000000000000000 0) ((v ⊖ w) ⊗ (v ⊖ w))
square-in v w i j =
    check_sound (neg (decimal 20000000000000000 0)) (decimal 20000000000000000 0) (minus 0 1 ∷ times 0 0 ∷ [])
    (range (neg far) far ∷ range (neg edge) edge ∷ [])
    (v ∷ w ∷ []) (i, (j, tt)) square-passes

module _ (sites x : List Float) (i j : ℕ) (formatted : (k : ℕ) → k < 3 → IsBinary64 (nth x k))
    (one_in : (k : ℕ) → k < 3 → InEdge (nth (site_at sites i) k)) (other-in : (k : ℕ) → k < 3 → InEdge (nth (site_at sites j) k))
    (near : T (le (problem.range sites x i) max_range_m)) where
  abbrev q : ℕ → Float
  q k = square k x (site_at sites i)

  abbrev sum : Float
  sum = q 0 ⊕ q 1 ⊕ q 2

  sum-least : T (le sum reach)
  sum-least = subst T (near-is (vec3.sub x (site_at sites i))) (subst (λ (m : Float). T (le (problem.range sites x i) m)) limit_is near)

  sum-finite : T (finite sum)
  sum-finite = root-under sum max_range_m limit-finite near

  two-finite : T (finite (q 0 ⊕ q 1))
  two-finite = (add-finite binary64 (q 0 ⊕ q 1) (q 2) sum-finite).0

  q-finite : (k : ℕ) → k < 3 → T (finite (q k))
  q-finite zero l = (add-finite binary64 (q 0) (q 1) two-finite).0
  q-finite (suc zero) l = (add-finite binary64 (q 0) (q 1) two-finite).1
  q-finite (suc (suc zero)) l = (add-finite binary64 (q 0 ⊕ q 1) (q 2) sum-finite).1
  q-finite (suc (suc (suc k))) l = absurd (omega arith)

  q-clear : (k : ℕ) → k < 3 → T (clear (q k))
  q-clear k l = clear-square (nth x k ⊖ nth (site_at sites i) k) (mul-finite binary64 _ _ (q-finite k l)).0

  pair : T (le (q 0) (q 0 ⊕ q 1)) × T (le (q 1) (q 0 ⊕ q 1))
  pair = first-least (q 0) (q 1) (mul-fits binary64 _ _) (mul-fits binary64 _ _) (q-clear 0 (omega arith)) (q-clear 1 (omega arith)) two-finite

  all : T (le (q 0 ⊕ q 1) sum) × T (le (q 2) sum)
  all =
      first-least (q 0 ⊕ q 1) (q 2) (add-fits binary64 (q 0) (q 1)) (mul-fits binary64 _ _)
      (add-clear binary64 (q 0) (q 1) (q-clear 0 (omega arith)) (q-clear 1 (omega arith))) (q-clear 2 (omega arith)) sum-finite

  reach-is : Is binary64 reach
  unfolding of_bits fits
  reach-is = (tt, tt)

  within : (v : Float) → Is binary64 v → T (le v sum) → T (le v reach)
  within v p l = le-trans-is binary64 v sum reach p (add-fits binary64 (q 0 ⊕ q 1) (q 2), sum-finite) reach-is l sum-least

  q-least : (k : ℕ) → k < 3 → T (le (q k) reach)
  q-least zero l = within (q 0) (mul-fits binary64 _ _, q-finite 0 l)
      (le-trans-is binary64 (q 0) (q 0 ⊕ q 1) sum (mul-fits binary64 _ _, q-finite 0 l) (add-fits binary64 (q 0) (q 1), two-finite)
      (add-fits binary64 (q 0 ⊕ q 1) (q 2), sum-finite) pair.0 all.0)
  q-least (suc zero) l = within (q 1) (mul-fits binary64 _ _, q-finite 1 l)
      (le-trans-is binary64 (q 1) (q 0 ⊕ q 1) sum (mul-fits binary64 _ _, q-finite 1 l) (add-fits binary64 (q 0) (q 1), two-finite)
      (add-fits binary64 (q 0 ⊕ q 1) (q 2), sum-finite) pair.1 all.0)
  q-least (suc (suc zero)) l = within (q 2) (mul-fits binary64 _ _, q-finite 2 l) all.1
  q-least (suc (suc (suc k))) l = absurd (omega arith)

  coordinate-finite : (k : ℕ) → k < 3 → T (finite (nth x k))
  coordinate-finite k l = (sub-finite binary64 (nth x k) (nth (site_at sites i) k) (mul-finite binary64 _ _ (q-finite k l)).0).0

  placed : (k : ℕ) → k < 3 → In binary64 (neg far) far (nth x k)
  placed k l = place_in (nth x k) (nth (site_at sites i) k) (formatted k l, coordinate-finite k l) (one_in k l) (q-least k l) (q-finite k l)

  abbrev r : ℕ → Float
  r k = square k x (site_at sites j)

  r-in : (k : ℕ) → k < 3 → In binary64 (neg (decimal 20000000000000000 0)) (decimal 20000000000000000 0) (r k)
  r-in k l = square-in (nth x k) (nth (site_at sites j) k) (placed k l) (other-in k l)

  total : In binary64 (neg (decimal 60000000000000000 0)) (decimal 60000000000000000 0) (r 0 ⊕ r 1 ⊕ r 2)
  total =
      let most = decimal 20000000000000000 0 in
      check_sound (neg (decimal 60000000000000000 0)) (decimal 60000000000000000 0) (plus 0 1 ∷ plus 0 3 ∷ [])
      (range (neg most) most ∷ range (neg most) most ∷ range (neg most) most ∷ []) (r 0 ∷ r 1 ∷ r 2 ∷ [])
      (r-in 0 (omega arith), (r-in 1 (omega arith), (r-in 2 (omega arith), tt))) sum-passes

  r-clear : (k : ℕ) → k < 3 → T (clear (r k))
  r-clear k l = clear-square (nth x k ⊖ nth (site_at sites j) k) (mul-finite binary64 _ _ (r-in k l).is.1).0

  pub other-finite : T (finite (problem.range sites x j))
  other-finite =
      root-finite (r 0 ⊕ r 1 ⊕ r 2) total.is
      (add-clear binary64 (r 0 ⊕ r 1) (r 2) (add-clear binary64 (r 0) (r 1) (r-clear 0 (omega arith)) (r-clear 1 (omega arith)))
      (r-clear 2 (omega arith)))
