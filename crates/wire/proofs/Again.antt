-- Whatever is written can be read back (`ReadsBackWhatWasWritten`): what a test on floats leaves is nearest to a whole number that the test on
-- whole numbers leaves. Assumes nothing.
use mathlib.Core.Path.{◌≡◌, refl, sym, subst}
use mathlib.Core.Bool.{Bool, true, false, ◌&&◌}
use Prim.Native.Nat.{ℕ, zero, suc, ◌*◌, ◌^◌, ◌≤◌}
use native.Mathlib.Nat.{le_trans, le_of_eq, mul_right_comm, mul-le-mul_right}
use native.Mathlib.Omega.{arith}
use lib.IntN.{ℤ, pos}
use lib.Ieee.{Float, nan, inf, fin, up, down, neg, round}
use lib.Ieee.Fits.{down_pos}
use borrow.Author.Tests.{le-leb}
use Rattle.binary64.specs.Steps.{decimal}
use Rattle.limits.specs.Heights.{min_height_m, max_height_m}
use Rattle.wire.specs.declared.Wire.{Wire}
use Rattle.wire.specs.Nearest.{signed, half_up}
use Rattle.wire.specs.Wire.{per_degree, per_metre, in_units, within, between, writable, readable}
use Rattle.wire.specs.Meaning.{ReadsBackWhatWasWritten}
use Rattle.wire.proofs.Meaning.{by_value}
use Rattle.wire.proofs.Reach.{left, right, both, half-most, not-below, not-above, no_nan, no-inf}
use Rattle.wire.proofs.Exactly.{written_of}

-- ---- whole numbers between limits, by sign and size
not-past-low : (A B n : ℕ) → n ≤ A → between (signed true A) (signed false B) (signed true n) ≡ true
not-past-low zero B zero h = rw (le-leb 0 B (omega arith))
not-past-low (suc A) B zero h = rw (le-leb 0 B (omega arith))
not-past-low zero B (suc n) h = absurd (omega arith)
not-past-low (suc A) B (suc n) h = let l : n ≤ A = omega arith in rw (le-leb n A l)

not-past-high : (A B n : ℕ) → n ≤ B → between (signed true A) (signed false B) (signed false n) ≡ true
not-past-high zero B n h = rw (le-leb 0 n (omega arith), le-leb n B h)
not-past-high (suc A) B n h = rw (le-leb n B h)

-- ---- a coordinate: from -a * 2 ^ i to b * 2 ^ j
module _ (a i b j unit : ℕ) where
  few : (N m : ℕ) (e : ℤ) → m * up e ≤ N * down e → half_up (m * up e * unit) (down e) ≤ N * unit
  few N m e h =
      half-most (m * up e * unit) (down e) (N * unit) (down_pos e)
      (le_trans (mul-le-mul_right unit h) (le_of_eq (mul_right_comm N (down e) unit)))

  abbrev Between : ℤ → Type 0
  Between w = between (signed true (a * 2 ^ i * unit)) (signed false (b * 2 ^ j * unit)) w ≡ true

  -- a whole number by sign and size
  units : (s : Bool) (m : ℕ) (e : ℤ) → Between (signed s (half_up (m * up e * unit) (down e))) → Between (in_units unit (fin s m e))
  units s m e = subst Between (sym (by_value unit (fin s m e) s (m * up e) (down e) (down_pos e) (refl, refl)))

  coordinate : (x : Float) → within (fin true a (pos i)) (fin false b (pos j)) x ≡ true → Between (in_units unit x)
  coordinate nan h = absurd (no_nan a i b j h)
  coordinate (inf s) h = absurd (no-inf a i b j s h)
  coordinate (fin true m e) h =
      units true m e (not-past-low (a * 2 ^ i * unit) (b * 2 ^ j * unit) _ (few (a * 2 ^ i) m e (not-below a i b j m e h)))
  coordinate (fin false m e) h =
      units false m e (not-past-high (a * 2 ^ i * unit) (b * 2 ^ j * unit) _ (few (b * 2 ^ j) m e (not-above a i b j m e h)))

pub reads-back-what-was-written : ReadsBackWhatWasWritten
unfolding readable writable min_height_m max_height_m neg round
reads-back-what-was-written p w e =
    let o = written_of p w e in
    let lat : Bool = within (neg (decimal 90 0)) (decimal 90 0) p.lat_deg in
    let lon : Bool = within (neg (decimal 180 0)) (decimal 180 0) p.lon_deg in
    let height : Bool = within min_height_m max_height_m p.height_m in
    let more = right lat (lon && height) o.0 in
    subst (λ (v : Wire). readable v ≡ true) o.1
    (both (coordinate 45 1 45 1 per_degree p.lat_deg (left lat (lon && height) o.0))
    (both (coordinate 45 2 45 2 per_degree p.lon_deg (left lon height more))
    (coordinate 375 2 3125 3 per_metre p.height_m (right lon height more))))
