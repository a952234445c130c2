-- The root of what lies from xl to xh, both above 0, lies from lo to hi where lo * lo ≤ xl and xh ≤ hi * hi, exactly: the binary64 nearest to a root
-- is on no other side of lo or hi than the root itself. Assumes nothing.
use mathlib.Core.Path.{◌≡◌, refl, sym, subst}
use mathlib.Core.Logic.{inl, inr}
use Prim.Native.Nat.{ℕ, ◌+◌, ◌*◌, ◌^◌, ◌≤◌}
use native.Mathlib.Nat.{le_trans, mul-le-mul, mul-le-mul_right}
use native.Mathlib.Omega.{arith}
use mathlib.Core.Bool.{Bool, false, ◌&&◌}
use lib.Dec.{T, leb, ltb, leb→le, ltb→lt}
use lib.Ieee.{Float, nan, inf, fin, binary64}
use lib.Ieee.Fits.{and_l, and_r}
use lib.Ieee.Scale.{finite}
use Rattle.binary64.specs.Root.{root}
use Rattle.binary64.specs.Meaning.{HasUnits, Nearer}
use Rattle.binary64.proofs.Nearer.{either}
use Rattle.binary64.proofs.Meaning.{root-nearest}
use Rattle.binary64.proofs.Units.{Is, P, N, units→le}
use Rattle.binary64.proofs.Interval.{In}
use Rattle.binary64.proofs.Tail.{val-units}
use Rattle.binary64.proofs.Own.{no_minus, has-units, more-units}

-- ---- r is nearest to √n
not-below : (n r k : ℕ) → Nearer n r false k → k * k ≤ n → k ≤ r
not-below n r k f h = elim (either k r) [
  | inl l ↦ l
  | inr l ↦
      let s : (r + k) * (r + k) ≤ (k + k) * (k + k) = mul-le-mul (omega arith) (omega arith) in
      let m = f.0 l in
      absurd (omega arith)
]

not-above : (n r k : ℕ) → Nearer n r false k → n ≤ k * k → r ≤ k
not-above n r k f h = elim (either r k) [
  | inl l ↦ l
  | inr l ↦
      let s : (k + k) * (k + k) ≤ (r + k) * (r + k) = mul-le-mul (omega arith) (omega arith) in
      let m = f.1 l in
      absurd (omega arith)
]

-- ---- the interval, in units
module _ (lo hi xl xh : Float) where
  abbrev pub roots : Bool
  roots =
      (ltb 0 (P binary64 lo) && ltb 0 (P binary64 hi))
      && (ltb 0 (P binary64 xl)
      && (leb (P binary64 lo * P binary64 lo) (P binary64 xl * 2 ^ 1074) && leb (P binary64 xh * 2 ^ 1074) (P binary64 hi * P binary64 hi)))

pub value-finite : (x : Float) (a : ℕ) → HasUnits x false a → T (finite x)
value-finite nan a h = absurd h
value-finite (inf s) a h = absurd h
value-finite (fin s m e) a h = tt

pub root_in : (lo hi xl xh x : Float) → Is binary64 lo → Is binary64 hi → T (roots lo hi xl xh) → In binary64 xl xh x → In binary64 lo hi (root x)
root_in lo hi xl xh x p q t i =
    let ends = ltb 0 (P binary64 lo) && ltb 0 (P binary64 hi) in
    let some = ltb 0 (P binary64 xl) in
    let under = leb (P binary64 lo * P binary64 lo) (P binary64 xl * 2 ^ 1074) in
    let over = leb (P binary64 xh * 2 ^ 1074) (P binary64 hi * P binary64 hi) in
    let t1 = and_l ends (some && (under && over)) t in
    let t2 = and_r ends (some && (under && over)) t in
    let t3 = and_r some (under && over) t2 in
    let L = ltb→lt 0 (P binary64 lo) (and_l (ltb 0 (P binary64 lo)) (ltb 0 (P binary64 hi)) t1) in
    let H = ltb→lt 0 (P binary64 hi) (and_r (ltb 0 (P binary64 lo)) (ltb 0 (P binary64 hi)) t1) in
    let X = more-units xl x i.lo-is i.is i.least (ltb→lt 0 (P binary64 xl) (and_l some (under && over) t2)) in
    let Y = more-units x xh i.is i.hi-is i.most X.1 in
    let n = P binary64 x * 2 ^ 1074 in
    let nr = (root-nearest x (P binary64 x) i.is.0 (has-units x i.is X.1) X.1).0 in
    let v = val-units binary64 (root x) nr.r nr.binary nr.value in
    let a = not-below n nr.r (P binary64 lo) (nr.nearest lo false (P binary64 lo) p.0 (has-units lo p L))
    (le_trans (leb→le (P binary64 lo * P binary64 lo) (P binary64 xl * 2 ^ 1074) (and_l under over t3)) (mul-le-mul_right (2 ^ 1074) X.0)) in
    let b = not-above n nr.r (P binary64 hi) (nr.nearest hi false (P binary64 hi) q.0 (has-units hi q H))
    (le_trans (mul-le-mul_right (2 ^ 1074) Y.0) (leb→le (P binary64 xh * 2 ^ 1074) (P binary64 hi * P binary64 hi) (and_r under over t3))) in
    let is : Is binary64 (root x) = (nr.binary, value-finite (root x) nr.r nr.value) in
    record {
      lo-is = p;
      hi-is = q;
      is = is;
      least = units→le binary64 lo (root x) p is
          (least (P binary64 lo) (N binary64 lo) (P binary64 (root x)) (N binary64 (root x)) nr.r (no_minus lo L) v.0 v.1 a);
      most = units→le binary64 (root x) hi is q
          (least (P binary64 (root x)) (N binary64 (root x)) (P binary64 hi) (N binary64 hi) (P binary64 hi) v.1 refl (no_minus hi H)
          (subst (λ (k : ℕ). k ≤ P binary64 hi) (sym v.0) b));
    }
  where
    least : (p n p' n' r : ℕ) → n ≡ 0 → p' ≡ r → n' ≡ 0 → p ≤ r → p + n' ≤ p' + n
    least p n p' n' r z e z' h = omega arith
