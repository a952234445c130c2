-- The statements of specs/Meaning.antt on `nearest` and `in_units`. Of one sign the distance is that of the sizes, and the two bounds say the
-- same as the two facts; of unlike signs it is their sum, which is at most a half only at 0. Assumes nothing.
use mathlib.Core.Path.{◌≡◌, refl, sym, ap, ◌∙◌, subst}
use mathlib.Core.Bool.{Bool, true, false}
use mathlib.Core.Logic.{inl, inr}
use Prim.Native.Nat.{ℕ, zero, suc, ◌+◌, ◌*◌, ◌≤◌, ◌<◌}
use native.Mathlib.Nat.{mul_right_comm}
use native.Mathlib.Omega.{arith}
use lib.IntN.{ℤ, pos, negsuc, nat_abs, ◌-ℤ◌, ◌*ℤ◌}
use lib.Ieee.{Float, nan, inf, fin, up, down}
use lib.Ieee.Fits.{down_pos}
use lib.Ieee.Exact.{HasValue}
use lib.Ieee.Nearest.{div_same}
use Rattle.binary64.proofs.Nearer.{either}
use Rattle.wire.specs.Nearest.{signed, half_up, nearest}
use Rattle.wire.specs.Wire.{in_units}
use Rattle.wire.specs.Meaning.{Nearest, NearestIsNearest, InUnitsIsNearest}
use Rattle.wire.proofs.Distance.{gap, apart, size, times, nearest-signed, Rounded, rounded, only}

-- ---- of one sign
far : (s : Bool) (n c a : ℕ) → nat_abs (signed s n *ℤ pos c -ℤ signed s a) ≡ gap (n * c) a
far false n c a = ap (λ (z : ℤ). nat_abs (z -ℤ signed false a)) (times false n c) ∙ apart false false (n * c) a
far true n c a = ap (λ (z : ℤ). nat_abs (z -ℤ signed true a)) (times true n c) ∙ apart true true (n * c) a

by-bounds : (s : Bool) (a c n : ℕ) → 0 < c → Rounded a c n → Nearest (signed s a) c (signed s n)
by-bounds s a c n p r =
    let d : nat_abs (signed s n *ℤ pos c -ℤ signed s a) ≡ gap (n * c) a = far s n c a in
    let x = r.low in
    let y = r.high in
    record { half = rw d (omega arith); away = λ e. let g : 2 * gap (n * c) a ≡ c = rw d at e in rw (size s a, size s n) (omega arith) }

by-facts : (s : Bool) (a c n : ℕ) → 0 < c → Nearest (signed s a) c (signed s n) → Rounded a c n
by-facts s a c n p k =
    let d : nat_abs (signed s n *ℤ pos c -ℤ signed s a) ≡ gap (n * c) a = far s n c a in
    let x : 2 * gap (n * c) a ≤ c = rw d at k.half in
    record {
      low = elim (either (2 * (n * c) + c) (2 * a)) [
        | inl l ↦
            let e : 2 * nat_abs (signed s n *ℤ pos c -ℤ signed s a) ≡ c = rw d (omega arith) in
            let g : a < n * c = rw (size s a, size s n) at (k.away e) in
            absurd (omega arith)
        | inr l ↦ l
      ];
      high = omega arith;
    }

-- ---- of unlike signs only 0 is near, and it has both signs
no-sum : (p a c : ℕ) → 0 < c → 2 * (p * c + a) ≤ c → p ≡ 0
no-sum zero a c z h = refl
no-sum (suc p) a c z h = absurd (omega arith)

zeros : (s t : Bool) → signed s 0 ≡ signed t 0
zeros false false = refl
zeros false true = refl
zeros true false = refl
zeros true true = refl

other : (s t : Bool) (a c n : ℕ) → 0 < c → Nearest (signed s a) c (signed t n) → signed t n ≡ signed s n
other false false a c n p k = refl
other true true a c n p k = refl
other true false a c n p k = let z : n ≡ 0 = no-sum n a c p (rw (times false n c, apart false true (n * c) a) at k.half) in rw z
other false true a c n p k = let z : n ≡ 0 = no-sum n a c p (rw (times true n c, apart true false (n * c) a) at k.half) in rw z

-- every whole number has a sign and a size
parted : (w : ℤ) → (t : Bool) × (n : ℕ) × (w ≡ signed t n)
parted (pos n) = (false, n, refl)
parted (negsuc n) = (true, suc n, refl)

only-nearest : (s : Bool) (a c : ℕ) (w : ℤ) → 0 < c → Nearest (signed s a) c w → w ≡ signed s (half_up a c)
only-nearest s a c w p k =
    let o = parted w in
    let t = o.0 in
    let n = o.1 in
    let k' : Nearest (signed s a) c (signed t n) = subst (Nearest (signed s a) c) o.2 k in
    let same : signed t n ≡ signed s n = other s t a c n p k' in
    o.2 ∙ same ∙ ap (signed s) (only a c n p (by-facts s a c n p (subst (Nearest (signed s a) c) same k')))

both
    : (s : Bool) (a c : ℕ) → 0 < c
    → Nearest (signed s a) c (nearest (signed s a) c) × ((w : ℤ) → Nearest (signed s a) c w → w ≡ nearest (signed s a) c)
both s a c p =
    let e = nearest-signed s a c p in
    (subst (Nearest (signed s a) c) (sym e) (by-bounds s a c (half_up a c) p (rounded a c p)), λ w k. only-nearest s a c w p k ∙ sym e)

pub nearest-is-nearest : NearestIsNearest
nearest-is-nearest (pos a) c p = both false a c p
nearest-is-nearest (negsuc a) c p = both true (suc a) c p

-- ---- a float
pub by_value : (unit : ℕ) (x : Float) (s : Bool) (a c : ℕ) → 0 < c → HasValue x s a c → in_units unit x ≡ signed s (half_up (a * unit) c)
unfolding in_units
by_value unit nan s a c p h = absurd h
by_value unit (inf t) s a c p h = absurd h
by_value unit (fin t m e) s a c p h =
    ap (λ (b : Bool). nearest (signed b (m * up e * unit)) (down e)) h.0
    ∙ nearest-signed s (m * up e * unit) (down e) (down_pos e)
    ∙ ap (signed s) (half-same (m * up e * unit) (down e) (a * unit) c (down_pos e) p (cross (m * up e) (down e) a c unit h.1))
  where
    cross : (u d a c unit : ℕ) → u * c ≡ a * d → u * unit * c ≡ a * unit * d
    cross u d a c unit h = mul_right_comm u unit c ∙ ap (λ (y : ℕ). y * unit) h ∙ mul_right_comm a d unit

    doubled : (a b c d : ℕ) → a * d ≡ c * b → (2 * a + b) * (2 * d) ≡ (2 * c + d) * (2 * b)
    doubled a b c d h = omega arith

    half-same : (a b c d : ℕ) → 0 < b → 0 < d → a * d ≡ c * b → half_up a b ≡ half_up c d
    half-same a b c d p q h = div_same (2 * a + b) (2 * b) (2 * c + d) (2 * d) (omega arith) (omega arith) (doubled a b c d h)

pub by_units
    : (unit : ℕ) (x : Float) (s : Bool) (a c : ℕ) → 0 < c → HasValue x s a c
    → Nearest (signed s (a * unit)) c (in_units unit x) × ((w : ℤ) → Nearest (signed s (a * unit)) c w → w ≡ in_units unit x)
by_units unit x s a c p h =
    let e : in_units unit x ≡ nearest (signed s (a * unit)) c = by_value unit x s a c p h ∙ sym (nearest-signed s (a * unit) c p) in
    let b = both s (a * unit) c p in
    (subst (Nearest (signed s (a * unit)) c) (sym e) b.0, λ w k. b.1 w k ∙ sym e)

pub in-units-nearest : InUnitsIsNearest
in-units-nearest unit x s a c p h = by_units unit x s a c p h
