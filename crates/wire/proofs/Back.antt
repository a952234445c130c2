-- Whole numbers within the limits are read back to a place that is written as the same whole numbers (`WritesWhatWasReadBack`): the quotient is
-- nearer to the exact one than half a unit (`again`), and passes no limit (`limited`). Assumes nothing.
use mathlib.Core.Path.{◌≡◌, refl, sym, ap, ◌∙◌, subst}
use mathlib.Core.Bool.{Bool, true, false, ◌&&◌, ◌||◌}
use mathlib.Core.Logic.{inl, inr}
use Prim.Native.Nat.{ℕ, suc, ◌+◌, ◌*◌, ◌^◌, ◌≤◌, ◌<◌}
use native.Mathlib.Nat.{le_trans, le_of_eq, eq-or-lt_of_le, mul-one, mul-pos, mul_right_comm, mul-le-mul, mul-le-mul_right, le_of_mul-le-mul_right}
use native.Mathlib.Omega.{arith}
use lib.Dec.{leb, ltb, eqb, lit<, lit≤}
use lib.IntN.{ℤ, pos, negsuc}
use lib.Pow.{pow_pos}
use lib.Ieee.{Float, nan, inf, fin, binary64, up, down, neg, lt, le, eq, round, div, of_int}
use lib.Ieee.Fits.{down_pos}
use lib.Ieee.Exact.{HasValue}
use lib.Ieee.Back.{round_whole}
use borrow.Author.Tests.{leb-true, lt-ltb, eq-eqb}
use Rattle.geo.specs.declared.Geodetic.{Geodetic}
use Rattle.limits.specs.Heights.{min_height_m, max_height_m}
use Rattle.wire.specs.Nearest.{signed}
use Rattle.wire.specs.Wire.{per_degree, per_metre, in_units, within, between, writable, readable, back}
use Rattle.wire.specs.Meaning.{WritesWhatWasReadBack}
use Rattle.wire.proofs.Meaning.{by_value}
use Rattle.wire.proofs.Reach.{left, right, both}
use Rattle.wire.proofs.Arms.{whole, at}
use Rattle.wire.proofs.Quotient.{divided, value, limited, again}

-- ---- tests that pass
or_left : (a b : Bool) → a ≡ true → (a || b) ≡ true
or_left true b h = refl
or_left false b h = absurd (let z : ◌≡◌ {A = ℕ} 0 1 = cc in omega arith)

or_right : (a b : Bool) → b ≡ true → (a || b) ≡ true
or_right true b h = refl
or_right false b h = h

up_to : (a b : ℕ) → a ≤ b → (ltb a b || (eqb a b && true)) ≡ true
up_to a b h = elim (eq-or-lt_of_le h) [
  | inl e ↦ or_right (ltb a b) (eqb a b && true) (both (eq-eqb a b e) refl)
  | inr l ↦ or_left (ltb a b) (eqb a b && true) (lt-ltb a b l)
]

up_from : (a b : ℕ) → b ≤ a → (ltb b a || (eqb a b && true)) ≡ true
up_from a b h = elim (eq-or-lt_of_le h) [
  | inl e ↦ or_right (ltb b a) (eqb a b && true) (both (eq-eqb a b (sym e)) refl)
  | inr l ↦ or_left (ltb b a) (eqb a b && true) (lt-ltb b a l)
]

-- the size of a value, against a whole number
sized : (m a N L d : ℕ) → 0 < L → m * L ≡ a * d → a ≤ N * L → m * 1 ≤ N * d
sized m a N L d p e h =
    le_trans (le_of_eq (mul-one m))
    (le_of_mul-le-mul_right (le_trans (le_of_eq e) (le_trans (mul-le-mul_right d h) (le_of_eq (mul_right_comm N L d)))) p)

-- of unlike signs, not both zero
above_zero : (a b : ℕ) (t : Bool) → 0 < a + b → (ltb 0 (a + b) || t) ≡ true
above_zero a b t h = or_left (ltb 0 (a + b)) t (lt-ltb 0 (a + b) h)

-- from -a * 2 ^ i to b * 2 ^ j
module _ (a i b j : ℕ) (pa : 0 < a * 2 ^ i) (pb : 0 < b * 2 ^ j) where
  abbrev Tested : Float → Type 0
  Tested x = within (fin true a (pos i)) (fin false b (pos j)) x ≡ true

  passes-below : (x : Float) (v L : ℕ) → 0 < L → HasValue x true v L → v ≤ a * 2 ^ i * L → Tested x
  unfolding le lt eq
  passes-below nan v L p h l = absurd h
  passes-below (inf s) v L p h l = absurd h
  passes-below (fin false m e) v L p h l = absurd (let g = h.0 in let z : ◌≡◌ {A = ℕ} 0 1 = cc in omega arith)
  passes-below (fin true m e) v L p h l =
      both (up_from (a * 2 ^ i * down e) (m * up e * 1) (sized (m * up e) v (a * 2 ^ i) L (down e) p h.1 l))
      (above_zero (m * up e * 1) (b * 2 ^ j * down e) _ (let z : 0 < b * 2 ^ j * down e = mul-pos pb (down_pos e) in omega arith))

  passes-above : (x : Float) (v L : ℕ) → 0 < L → HasValue x false v L → v ≤ b * 2 ^ j * L → Tested x
  unfolding le lt eq
  passes-above nan v L p h l = absurd h
  passes-above (inf s) v L p h l = absurd h
  passes-above (fin true m e) v L p h l = absurd (let g = h.0 in let z : ◌≡◌ {A = ℕ} 0 1 = cc in omega arith)
  passes-above (fin false m e) v L p h l =
      both (above_zero (a * 2 ^ i * down e) (m * up e * 1) _ (let z : 0 < a * 2 ^ i * down e = mul-pos pa (down_pos e) in omega arith))
      (up_to (m * up e * 1) (b * 2 ^ j * down e) (sized (m * up e) v (b * 2 ^ j) L (down e) p h.1 l))

  -- ---- a coordinate
  module _ (unit : ℕ) (p : 0 < unit) (u : unit < 2 ^ 24) (la : a * 2 ^ i ≤ 25000) (lb : b * 2 ^ j ≤ 25000) where
    abbrev Kept : ℤ → Type 0
    Kept w = Tested (back unit w) × (in_units unit (back unit w) ≡ w)

    -- every whole number of this size, and the unit, is a value of the format
    few : (n N : ℕ) → N ≤ 25000 → n ≤ N * unit → n ≤ 2 ^ 53
    few n N l h = let z : N * unit ≤ 25000 * 2 ^ 24 = mul-le-mul l (small u) in omega arith
      where
        small : {a b : ℕ} → a < b → a ≤ b
        small h = omega arith

    -- the quotient, rounded once
    kept : (s : Bool) (n N : ℕ) (w : ℤ) → N ≤ 25000 → n ≤ N * unit → back unit w ≡ round binary64 s n unit → w ≡ signed s n
        → ((x : Float) (v L : ℕ) → 0 < L → HasValue x s v L → v ≤ N * L → Tested x) → Kept w
    kept s n N w l h e o passes =
        let x = round binary64 s n unit in
        let v = value n unit N p u h l s in (
          subst Tested (sym e) (passes x _ (2 ^ 1074) (pow_pos 1074) v (limited n unit N p u h l)),
          ap (in_units unit) e ∙ by_value unit x s _ (2 ^ 1074) (pow_pos 1074) v ∙ ap (signed s) (again n unit N p u h l) ∙ sym o,
        )

    quotient
        : (s : Bool) (n N : ℕ) → N ≤ 25000 → n ≤ N * unit
        → div binary64 (round binary64 s n 1) (round binary64 false unit 1) ≡ round binary64 s n unit
    quotient s n N l h =
        divided (round binary64 s n 1) (round binary64 false unit 1) s n unit p (round_whole binary64 s n (few n N l h))
        (round_whole binary64 false unit (omega arith))

    from_zero : (n : ℕ) → n ≤ b * 2 ^ j * unit → Kept (pos n)
    unfolding back of_int
    from_zero n h = kept false n (b * 2 ^ j) (pos n) lb h (quotient false n (b * 2 ^ j) lb h) refl passes-above

    below-zero : (n : ℕ) → suc n ≤ a * 2 ^ i * unit → Kept (negsuc n)
    unfolding back of_int
    below-zero n h = kept true (suc n) (a * 2 ^ i) (negsuc n) la h (quotient true (suc n) (a * 2 ^ i) la h) refl passes-below

    coordinate : (low high : ℕ) → suc low ≤ a * 2 ^ i * unit → high ≤ b * 2 ^ j * unit → (w : ℤ) → between (negsuc low) (pos high) w ≡ true → Kept w
    coordinate low high l h (pos n) t = from_zero n (le_trans (leb-true n high t) h)
    coordinate low high l h (negsuc n) t = below-zero n (let g : n ≤ low = leb-true n low (left (leb n low) true t) in omega arith)

pub writes-what-was-read-back : WritesWhatWasReadBack
unfolding readable writable min_height_m max_height_m neg round
writes-what-was-read-back w h =
    let lat : Bool = between (negsuc 899999999) (pos 900000000) w.lat in
    let lon : Bool = between (negsuc 1799999999) (pos 1800000000) w.lon in
    let height : Bool = between (negsuc 1499999) (pos 25000000) w.height in
    let more = right lat (lon && height) h in
    let x =
    coordinate 45 1 45 1 (lit< tt) (lit< tt) per_degree (lit< tt) (lit< tt) (lit≤ tt) (lit≤ tt) 899999999 900000000 (lit≤ tt) (lit≤ tt)
    w.lat (left lat (lon && height) h) in
    let y =
    coordinate 45 2 45 2 (lit< tt) (lit< tt) per_degree (lit< tt) (lit< tt) (lit≤ tt) (lit≤ tt) 1799999999 1800000000 (lit≤ tt) (lit≤ tt)
    w.lon (left lon height more) in
    let z =
    coordinate 375 2 3125 3 (lit< tt) (lit< tt) per_metre (lit< tt) (lit< tt) (lit≤ tt) (lit≤ tt) 1499999 25000000 (lit≤ tt) (lit≤ tt)
    w.height (right lon height more) in
    let p : Geodetic = record {
      lat_deg = back per_degree w.lat;
      lon_deg = back per_degree w.lon;
      height_m = back per_metre w.height;
    } in (
      p,
      sym (at w {b = true} (sym h) refl refl refl refl),
      sym (whole p {b = true} (sym (both x.0 (both y.0 z.0))) refl (sym x.1) (sym y.1) (sym z.1)),
    )
