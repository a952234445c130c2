-- The statements of specs/Meaning.antt on what is written: the multiples are `nearest` at two denominators; a size of at most 180 degrees
-- comes to at most 2 ^ 25; the tests of the calls are the orders that they stand for. Assumes nothing.
use mathlib.Core.Path.{◌≡◌, refl, sym, ap, ◌∙◌}
use mathlib.Core.Bool.{Bool, true, false, cond, ◌&&◌}
use mathlib.Core.List.{List}
use Prim.Native.Nat.{ℕ, zero, suc, ◌+◌, ◌-◌, ◌*◌, ◌%◌, ◌^◌, ◌<◌, ◌≤◌}
use native.Mathlib.Nat.{le_trans, le_of_eq, mul-mod_left, div-lt_iff_lt-mul}
use native.Mathlib.Omega.{arith}
use lib.Dec.{leb, eqb, lit<, lit≤}
use lib.IntN.{ℤ, pos, negsuc, nat_abs, ◌-ℤ◌, ◌*ℤ◌}
use lib.Signed.{lt_z}
use lib.ListN.{length}
use mir.Syntax.{w16}
use mir.Val.{SFits}
use borrow.Author.Tests.{leb-true, le-leb, eqb-true, eqb-false, eq-eqb, ne_eqb}
use Rattle.wire.specs.declared.Wire.{Wire}
use Rattle.wire.specs.Nearest.{signed, half_up}
use Rattle.wire.specs.Wire.{between}
use Rattle.wire.proofs.Distance.{apart, size, only}
use Rattle.wire.proofs.Meaning.{nearest-is-nearest}
use Rattle.wire.proofs.Reach.{left, right, both, half-most}
use Rattle.asterix.specs.declared.Multiples.{Multiples}
use Rattle.asterix.specs.Multiples.{angle, level, turned, of_wire, on_globe}
use Rattle.asterix.specs.Items.{items, answer, fitting, write_answer, write_output, exportable, to_answer, to_output}
use Rattle.asterix.specs.Meaning.{AngleIsNearest, LevelIsNearest, NoHalves, TurnsAtTheEnd, IsExported, ExportsExactly, WritesExactly, InRange}
use Rattle.asterix.proofs.Signs.{by_sign}

-- ---- nearest
pub angle-is-nearest : AngleIsNearest
unfolding angle
angle-is-nearest w = nearest-is-nearest (w *ℤ pos (2 ^ 25)) 1800000000 (lit< tt)

pub level-is-nearest : LevelIsNearest
unfolding level
level-is-nearest mm = nearest-is-nearest mm 1905 (lit< tt)

-- a half never comes up: 1,905 is odd, and 180 * 10 ^ 7 has fewer factors of two than 2 ^ 26
pub no-halves : NoHalves
no-halves = (λ w m e. tie w m e, λ mm m e. omega (arith, e))
  where
    never : (d : ℕ) → d * 1024 ≡ 1800000000 → ⊥
    never d e = let z : 0 ≡ 1800000000 % 1024 = sym (mul-mod_left d 1024) ∙ ap (λ (x : ℕ). x % 1024) e in omega arith

    odd : (n k : ℕ) → 2 * (n * 1800000000 - k * 2 ^ 25 + (k * 2 ^ 25 - n * 1800000000)) ≡ 1800000000 → ⊥
    odd n k e = never (n * 3515625 - k * 65536 + (k * 65536 - n * 3515625)) (omega arith)

    sum : (n k : ℕ) → 2 * (n * 1800000000 + k * 2 ^ 25) ≡ 1800000000 → ⊥
    sum n k e = never (n * 3515625 + k * 65536) (omega arith)

    tie : (w m : ℤ) → 2 * nat_abs (m *ℤ pos 1800000000 -ℤ w *ℤ pos (2 ^ 25)) ≡ 1800000000 → ⊥
    tie (pos k) (pos n) e = odd n k (rw (apart false false (n * 1800000000) (k * 2 ^ 25)) at e)
    tie (pos k) (negsuc n) e = sum (suc n) k (rw (apart true false (suc n * 1800000000) (k * 2 ^ 25)) at e)
    tie (negsuc k) (pos n) e = sum n (suc k) (rw (apart false true (n * 1800000000) (suc k * 2 ^ 25)) at e)
    tie (negsuc k) (negsuc n) e = odd (suc n) (suc k) (rw (apart true true (suc n * 1800000000) (suc k * 2 ^ 25)) at e)

-- ---- sizes
angle-most : (w : ℤ) (n : ℕ) → nat_abs w * 2 ^ 25 ≤ n * 1800000000 → nat_abs (angle w) ≤ n
unfolding angle
angle-most w n h =
    le_trans
    (le_of_eq (ap nat_abs (sym (by_sign w (2 ^ 25) 1800000000 (lit< tt))) ∙ size (lt_z w (pos 0)) (half_up (nat_abs w * 2 ^ 25) 1800000000)))
    (half-most (nat_abs w * 2 ^ 25) 1800000000 n (lit< tt) h)

turned-most : (z : ℤ) → nat_abs z ≤ 2 ^ 25 → nat_abs (turned z) ≤ 2 ^ 25
unfolding turned
turned-most (negsuc n) h = h
turned-most (pos n) h = go (eqb n (2 ^ 25))
  where
    go : (b : Bool) → nat_abs (cond b (negsuc 33554431) (pos n)) ≤ 2 ^ 25
    go true = lit≤ tt
    go false = h

turned-end : (z : ℤ) → turned z ≡ pos (2 ^ 25) → ⊥
unfolding turned
turned-end (negsuc n) h = let e : ◌≡◌ {A = ℕ} 0 1 = cc in omega arith
turned-end (pos n) h = go (eqb n (2 ^ 25)) refl h
  where
    go : (b : Bool) → eqb n (2 ^ 25) ≡ b → cond b (negsuc 33554431) (pos n) ≡ pos (2 ^ 25) → ⊥
    go true e g = let z : ◌≡◌ {A = ℕ} 0 1 = cc in omega arith
    go false e g = eqb-false n (2 ^ 25) e (ap nat_abs g)

-- ---- where a longitude turns
-- the nearest multiple of a size that is at most 180 degrees is 2 ^ 25 from 1,799,999,974 units on
last : (n : ℕ) → n ≤ 1800000000 → 1800000000 ≤ n + 26 → half_up (n * 2 ^ 25) 1800000000 ≡ 2 ^ 25
last n h l = sym (only (n * 2 ^ 25) 1800000000 (2 ^ 25) (lit< tt) (record { low = omega arith; high = omega arith }))

less : (n : ℕ) → n + 26 < 1800000000 → half_up (n * 2 ^ 25) 1800000000 < 2 ^ 25
less n l = (div-lt_iff_lt-mul {k = 2 * 1800000000} {x = 2 * (n * 2 ^ 25) + 1800000000} {y = 2 ^ 25} (lit< tt)).1 (omega arith)

turned-last : (s : Bool) → turned (signed s (2 ^ 25)) ≡ signed true (2 ^ 25)
unfolding turned
turned-last true = refl
turned-last false = refl

turned-less : (s : Bool) (n : ℕ) → n < 2 ^ 25 → turned (signed s n) ≡ signed s n
unfolding turned
turned-less false n h = rw (ne_eqb n (2 ^ 25) (λ e. omega arith))
turned-less true zero h = refl
turned-less true (suc n) h = refl

pub turns-at-the-end : TurnsAtTheEnd
unfolding angle
turns-at-the-end w h =
    let s : Bool = lt_z w (pos 0) in
    let e : signed s (half_up (nat_abs w * 2 ^ 25) 1800000000) ≡ angle w = by_sign w (2 ^ 25) 1800000000 (lit< tt) in
    (λ l. ap turned (sym e ∙ ap (signed s) (last (nat_abs w) h l)) ∙ turned-last s, λ l. ap turned (sym e) ∙ turned-less s _ (less (nat_abs w) l) ∙ e)

-- ---- the range
pub in-range : (w : Wire) → nat_abs w.lat ≤ 900000000 → nat_abs w.lon ≤ 1800000000 → InRange (of_wire w)
unfolding of_wire
in-range w a b =
    record {
      lat = angle-most w.lat (2 ^ 24) (omega arith);
      lon-size = turned-most (angle w.lon) (angle-most w.lon (2 ^ 25) (omega arith));
      lon-end = turned-end (angle w.lon);
    }

-- ---- the tests and the orders
sized : (k : ℕ) (w : ℤ) → between (negsuc k) (pos (suc k)) w ≡ true → nat_abs w ≤ suc k
sized k (pos n) h = leb-true n (suc k) h
sized k (negsuc n) h = let l : n ≤ k = leb-true n k (left (leb n k) true h) in omega arith

of_size : (k : ℕ) (w : ℤ) → nat_abs w ≤ suc k → between (negsuc k) (pos (suc k)) w ≡ true
of_size k (pos n) h = le-leb n (suc k) h
of_size k (negsuc n) h = rw (le-leb n k (omega arith))

few_bits : (z : ℤ) → between (negsuc 32767) (pos 32767) z ≡ true → SFits w16 z
few_bits (pos n) h = let l : n ≤ 32767 = leb-true n 32767 h in record { sfits = omega arith }
few_bits (negsuc n) h = let l : n ≤ 32767 = leb-true n 32767 (left (leb n 32767) true h) in record { sfits = omega arith }

in-bits : (z : ℤ) → SFits w16 z → between (negsuc 32767) (pos 32767) z ≡ true
in-bits (pos n) f = let h : n < 2 ^ 15 = f.sfits in le-leb n 32767 (omega arith)
in-bits (negsuc n) f = let h : n < 2 ^ 15 = f.sfits in rw (le-leb n 32767 (omega arith))

fits-of : (m : Multiples) (len : ℕ) → fitting m len ≡ true → (len ≡ 10) × SFits w16 m.height
unfolding fitting
fits-of m len h =
    let t : Bool = between (negsuc 32767) (pos 32767) m.height in
    (eqb-true len 10 (left (eqb len 10) t h), few_bits m.height (right (eqb len 10) t h))

fitting-of : (m : Multiples) (len : ℕ) → len ≡ 10 → SFits w16 m.height → fitting m len ≡ true
unfolding fitting
fitting-of m len l f = both (eq-eqb len 10 l) (in-bits m.height f)

exported-of : (w : Wire) (len : ℕ) → exportable w len ≡ true → IsExported w len
unfolding exportable on_globe of_wire
exported-of w len h =
    let lat : Bool = between (negsuc 899999999) (pos 900000000) w.lat in
    let lon : Bool = between (negsuc 1799999999) (pos 1800000000) w.lon in
    let fit : Bool = fitting (of_wire w) len in
    let globe : (lat && lon) ≡ true = left (lat && lon) fit h in
    let f = fits-of (of_wire w) len (right (lat && lon) fit h) in
    record {
      ten = f.0;
      lat = sized 899999999 w.lat (left lat lon globe);
      lon = sized 1799999999 w.lon (right lat lon globe);
      height = f.1;
    }

of-exported : (w : Wire) (len : ℕ) → IsExported w len → exportable w len ≡ true
unfolding exportable on_globe of_wire
of-exported w len x =
    both (both (of_size 899999999 w.lat x.lat) (of_size 1799999999 w.lon x.lon))
    (fitting-of (of_wire w) len x.ten x.height)

-- ---- which calls write
-- a test is true where what it stands for holds, and false where not
decided : (b : Bool) {A : Type 0} → (b ≡ true → A) → (A → ⊥) → b ≡ false
decided true f n = absurd (n (f refl))
decided false f n = refl

answered : (b : Bool) → answer b ≡ 0 → b ≡ true
answered true h = refl
answered false h = absurd (omega (arith, h))

pub writes : (m : Multiples) (out : List ℕ) → length out ≡ 10 → SFits w16 m.height → (write_answer m out ≡ 0) × (write_output m out ≡ items m)
unfolding write_answer write_output
writes m out l f = let h = fitting-of m (length out) l f in (rw h, rw h)

pub written : (m : Multiples) (out : List ℕ) → write_answer m out ≡ 0 → (length out ≡ 10) × SFits w16 m.height
unfolding write_answer
written m out a = fits-of m (length out) (answered (fitting m (length out)) a)

pub writes-exactly : WritesExactly
unfolding write_answer write_output
writes-exactly m out =
    (λ l f. writes m out l f, λ n. let h = decided (fitting m (length out)) (fits-of m (length out)) n in (rw h, rw h))

pub exports : (w : Wire) (out : List ℕ) → IsExported w (length out) → (to_answer w out ≡ 0) × (to_output w out ≡ items (of_wire w))
unfolding to_answer to_output
exports w out x = let h = of-exported w (length out) x in (rw h, rw h)

pub exported : (w : Wire) (out : List ℕ) → to_answer w out ≡ 0 → IsExported w (length out)
unfolding to_answer
exported w out a = exported-of w (length out) (answered (exportable w (length out)) a)

pub exports-exactly : ExportsExactly
unfolding to_answer to_output
exports-exactly w out =
    (λ x. exports w out x, λ n. let h = decided (exportable w (length out)) (exported-of w (length out)) n in (rw h, rw h))
