-- The transmit time: places of an i64 counted from the least, and what the cast to i128 gives of a binary64. Assumes nothing.
use Rattle.std.proofs.Common.{◌≡◌, ℕ, zero, suc, ◌+◌, ◌-◌, ◌*◌, ◌/◌, ◌^◌, ◌<◌, ◌≤◌, min, Bool, true, false, cond, T, ℤ, pos, negsuc, ◌+ℤ◌, neg_ℤ, sym}
use Rattle.std.proofs.Common.{refl, ap, ◌∙◌, subst, ap₂, true≢false, le_trans, le_of_lt, div-lt_iff_lt-mul, le-div_iff_mul-le, arith, lt→ltb, leb→le}
use Rattle.std.proofs.Common.{w64, SFits, to_z, of_z, ltb-false, ltb-true, le-ltb, lt-ltb}
use Rattle.std.specs.Prelude as std
use Rattle.std.specs.Prelude.{SomeIff}
use mathlib.Core.Bool.{false≢true}
use native.Mathlib.Nat.{div-eq_of_lt, min-eq_left, le-min}
use lib.Signed.{mag}
use lib.Ieee.{Float, nan, inf, fin, up, down, lt, eq, ne, neg, to_signed, to_unsigned}
use lib.Ieee.Fits.{down_pos}
use mir.ValLaws.{to_z-of_z}
use Rattle.binary64.specs.Steps.{◌⊗◌, ◌⊘◌, #}
use Rattle.binary64.specs.Rounding.{half_away}
use Rattle.binary64.proofs.Patterns.{is-nan}
use Rattle.geo.proofs.Constants.{light}
use Rattle.rounds.specs.Finish.{fits_i64, transmit_ps}
use Rattle.rounds.specs.Held.{moment_of}
use Rattle.rounds.proofs.Certainty.{second}

-- ---- sums that an i64 holds or not
pub held_fits : (z : ℤ) → fits_i64 z ≡ true → SFits w64 z
held_fits (pos n) h = record { sfits = ltb-true n (2 ^ 63) h }
held_fits (negsuc n) h = record { sfits = ltb-true n (2 ^ 63) h }

fits-held : (z : ℤ) → SFits w64 z → fits_i64 z ≡ true
fits-held (pos n) h = lt-ltb n (2 ^ 63) h.sfits
fits-held (negsuc n) h = lt-ltb n (2 ^ 63) h.sfits

-- what a checked sum gives
pub checked : (z : ℤ) (r : std.Option ℤ) → SomeIff r (SFits w64 z) z → r ≡ moment_of z
checked z (std.Some x) h = ap std.Some h.1 ∙ sym (ap (λ (t : Bool). cond t (std.Some z) std.None) (fits-held z h.0))
checked z std.None h = go (fits_i64 z) refl
  where
    go : (t : Bool) → fits_i64 z ≡ t → std.None ≡ moment_of z
    go true e = absurd (h (held_fits z e))
    go false e = sym (ap (λ (t : Bool). cond t (std.Some z) std.None) e)

nought-more : (x : ℤ) → x +ℤ pos 0 ≡ x
nought-more (pos n) = ap pos (omega arith)
nought-more (negsuc n) = rw (lt-ltb 0 (suc n) (omega arith)) (ap negsuc (omega arith))

-- nothing added
pub held-as : (x : ℤ) → SFits w64 x → std.Some x ≡ moment_of (x +ℤ pos 0)
held-as x h = checked x (std.Some x) (h, refl) ∙ ap moment_of (sym (nought-more x))

-- ---- the cast
cut_below : (a d : ℕ) → 0 < d → a * 1 < 2 ^ 64 * d → a / d < 2 ^ 64
cut_below a d p h = (div-lt_iff_lt-mul {k = d} {x = a} {y = 2 ^ 64} p).1 (omega arith)

cut-above : (a d : ℕ) → 0 < d → 2 ^ 64 * d ≤ a * 1 → 2 ^ 64 ≤ a / d
cut-above a d p h = (le-div_iff_mul-le {k = d} {x = 2 ^ 64} {y = a} p).1 (omega arith)

-- an i128 goes past 2 ^ 64 on both sides
room : 2 ^ 64 ≤ 2 ^ 127 - 1
room = leb→le (2 ^ 64) (2 ^ 127 - 1) tt

room-below : 2 ^ 64 ≤ 2 ^ 127
room-below = leb→le (2 ^ 64) (2 ^ 127) tt

abbrev minus_one : Float
minus_one = fin true 1 (pos 0)

abbrev word : Float
word = fin false 1 (pos 64)

pub cast-nan : (x : Float) → ne x x ≡ true → to_signed 127 x ≡ pos 0
unfolding to_signed
cast-nan x h = rw (is-nan x h) refl

-- -1 < x < 2 ^ 64
pub cast-up : (x : Float) → lt minus_one x ≡ true → lt x word ≡ true → to_signed 127 x ≡ pos (to_unsigned 64 x)
unfolding lt to_signed to_unsigned
cast-up nan h k = absurd (false≢true h)
cast-up (inf true) h k = absurd (false≢true h)
cast-up (inf false) h k = absurd (false≢true k)
cast-up (fin true m e) h k =
    let q : m * up e / down e ≡ 0 = none (m * up e) (down e) (omega (arith, ltb-true (m * up e * 1) (1 * down e) h)) in
    rw q refl
  where
    none : (a d : ℕ) → a < d → a / d ≡ 0
    none a d l = div-eq_of_lt l
cast-up (fin false m e) h k =
    let q = cut_below (m * up e) (down e) (down_pos e) (ltb-true (m * up e * 1) (2 ^ 64 * down e) k) in
    ap pos (min-eq_left (le_trans (le_of_lt q) room) ∙ sym (min-eq_left (omega arith)))

-- x ≥ 2 ^ 64
pub cast-high : (x : Float) → lt minus_one x ≡ true → lt x word ≡ false → (k : ℕ) × (to_signed 127 x ≡ pos k) × (2 ^ 64 ≤ k)
unfolding lt to_signed
cast-high nan h k = absurd (false≢true h)
cast-high (inf true) h k = absurd (false≢true h)
cast-high (inf false) h k = (2 ^ 127 - 1, refl, room)
cast-high (fin true m e) h k = absurd (omega (arith, down_pos e, ltb-false 0 (m * up e * 1 + 2 ^ 64 * down e) k))
cast-high (fin false m e) h k =
    let q = cut-above (m * up e) (down e) (down_pos e) (ltb-false (m * up e * 1) (2 ^ 64 * down e) k) in
    (min (m * up e / down e) (2 ^ 127 - 1), refl, le-min q room)

-- x ≤ -1
pub turned : (x : Float) → ne x x ≡ false → lt minus_one x ≡ false → T (lt minus_one (neg x))
unfolding lt ne eq neg
turned nan n h = absurd (true≢false n)
turned (inf true) n h = tt
turned (inf false) n h = absurd (true≢false h)
turned (fin true m e) n h = lt→ltb 0 (1 * down e + m * up e * 1) (omega (arith, down_pos e))
turned (fin false m e) n h = absurd (omega (arith, down_pos e, ltb-false 0 (1 * down e + m * up e * 1) h))

-- -2 ^ 64 < x ≤ -1
pub cast-down : (x : Float) → ne x x ≡ false → lt minus_one x ≡ false → lt (neg x) word ≡ true → to_signed 127 x ≡ neg_ℤ (pos (to_unsigned 64 (neg x)))
unfolding lt ne eq neg to_signed to_unsigned
cast-down nan n h k = absurd (true≢false n)
cast-down (inf true) n h k = absurd (false≢true k)
cast-down (inf false) n h k = absurd (true≢false h)
cast-down (fin true m e) n h k =
    let q = cut_below (m * up e) (down e) (down_pos e) (ltb-true (m * up e * 1) (2 ^ 64 * down e) k) in
    ap (λ (x : ℕ). neg_ℤ (pos x)) (min-eq_left (le_trans (le_of_lt q) room-below) ∙ sym (min-eq_left (omega arith)))
cast-down (fin false m e) n h k = absurd (omega (arith, down_pos e, ltb-false 0 (1 * down e + m * up e * 1) h))

-- x ≤ -2 ^ 64
pub cast-low : (x : Float) → ne x x ≡ false → lt minus_one x ≡ false → lt (neg x) word ≡ false → (k : ℕ)
    × (to_signed 127 x ≡ neg_ℤ (pos k)) × (2 ^ 64 ≤ k)
unfolding lt ne eq neg to_signed
cast-low nan n h k = absurd (true≢false n)
cast-low (inf true) n h k = (2 ^ 127, refl, room-below)
cast-low (inf false) n h k = absurd (true≢false h)
cast-low (fin true m e) n h k =
    let q = cut-above (m * up e) (down e) (down_pos e) (ltb-false (m * up e * 1) (2 ^ 64 * down e) k) in
    (min (m * up e / down e) (2 ^ 127), refl, le-min q room-below)
cast-low (fin false m e) n h k = absurd (omega (arith, down_pos e, ltb-false 0 (1 * down e + m * up e * 1) h))

-- past 2 ^ 64 to either side no reference brings the sum back
beyond : (z : ℤ) → fits_i64 z ≡ false → std.None ≡ moment_of z
beyond z e = sym (ap (λ (t : Bool). cond t (std.Some z) std.None) e)

pub far-later : (x : ℤ) (k : ℕ) → mag x < 2 ^ 63 → 2 ^ 64 ≤ k → std.None ≡ moment_of (x +ℤ pos k)
far-later (pos n) k f h = beyond (pos (n + k)) (le-ltb (n + k) (2 ^ 63) (omega arith))
far-later (negsuc n) k f h = rw (le-ltb k (suc n) (omega arith)) (beyond (pos (k - suc n)) (le-ltb (k - suc n) (2 ^ 63) (omega arith)))

pub far-earlier : (x : ℤ) (k : ℕ) → mag x < 2 ^ 63 → 2 ^ 64 ≤ k → std.None ≡ moment_of (x +ℤ neg_ℤ (pos k))
far-earlier x zero f h = absurd (omega arith)
far-earlier (pos n) (suc k) f h = rw (lt-ltb n (suc k) (omega arith))
    (beyond (negsuc (suc k - suc n)) (le-ltb (suc k - suc n) (2 ^ 63) (omega arith)))
far-earlier (negsuc n) (suc k) f h = beyond (negsuc (suc (n + k))) (le-ltb (suc (n + k)) (2 ^ 63) (omega arith))

-- ---- the transmit time by its rounded picoseconds r, where the code's tests put it
pub by-cast : (x z : ℤ) (t r : Float) (m : std.Option ℤ) → r ≡ half_away (t ⊘ # 0x41B1DE784A000000 ⊗ # 0x426D1A94A2000000) → to_signed 127 r ≡ z → m
    ≡ moment_of (x +ℤ z) → m ≡ moment_of (transmit_ps x t)
unfolding transmit_ps
by-cast x z t r m R e h = h ∙ ap (λ (y : ℤ). moment_of (x +ℤ y))
    (sym e ∙ ap (to_signed 127) (R ∙ ap₂ (λ (c s : Float). half_away (t ⊘ c ⊗ s)) (sym light) (sym second)))

-- ---- the moment read back
timed_by : (z : ℤ) (t : Bool) (x : ℤ) → std.Some x ≡ cond t (std.Some z) std.None → (t ≡ true) × (x ≡ z)
timed_by z true x e = (refl, cc)
timed_by z false x e = absurd (let q : ◌≡◌ {A = ℕ} 0 1 = cc in omega arith)

untimed_by : (z : ℤ) (t : Bool) → ◌≡◌ {A = std.Option ℤ} std.None (cond t (std.Some z) std.None) → t ≡ false
untimed_by z false e = refl
untimed_by z true e = absurd (let q : ◌≡◌ {A = ℕ} 0 1 = cc in omega arith)

pub moment-held : (z x : ℤ) → std.Some x ≡ moment_of z → (fits_i64 z ≡ true) × (x ≡ z)
moment-held z x e = timed_by z (fits_i64 z) x e

pub moment-beyond : (z : ℤ) → ◌≡◌ {A = std.Option ℤ} std.None (moment_of z) → fits_i64 z ≡ false
moment-beyond z e = untimed_by z (fits_i64 z) e

pub moment-read : (z x : ℤ) → std.Some x ≡ moment_of z → to_z w64 (of_z w64 x) ≡ x
moment-read z x e = let t = moment-held z x e in to_z-of_z w64 x (subst (SFits w64) (sym t.1) (held_fits z t.0))
