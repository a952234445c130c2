-- Exactly the records of fixes within the limits are written, as their nearest whole numbers, and every other is refused (`WritesExactly`,
-- `RefusesOthers`). Assumes nothing.
use mathlib.Core.Path.{◌≡◌, refl, sym, ap, ◌∙◌, subst}
use mathlib.Core.Bool.{Bool, true, false, cond, ◌&&◌, false≢true}
use mathlib.Core.List.{List}
use Prim.Native.Nat.{ℕ, ◌*◌}
use native.Mathlib.Omega.{arith}
use lib.Dec.{T, eqb}
use lib.IntN.{ℤ}
use lib.Ieee.{Float, nan, inf, fin, up, down, neg, le}
use lib.Ieee.Fits.{down_pos}
use borrow.Author.Tests.{eqb-true, eqb-false}
use Rattle.binary64.specs.Steps.{decimal}
use Rattle.geo.specs.declared.Geodetic.{Geodetic}
use Rattle.limits.specs.Heights.{min_height_m, max_height_m}
use Rattle.std.specs.Prelude.{Result, Ok, Err}
use Rattle.refusals.specs.declared.Refusal.{Refusal}
use Rattle.refusals.specs.declared.Refusal.TheVariants.{BeyondTheWire}
use Rattle.reader.specs.declared.content.Content.{Content}
use Rattle.reader.specs.Read.{read_of}
use Rattle.wire.specs.declared.Wire.{Wire}
use Rattle.wire.specs.Nearest.{signed}
use Rattle.wire.specs.Wire.{per_degree, per_metre, in_units, within, writable, of_position, of_reading, to_wire}
use Rattle.wire.specs.Held.{AtMost}
use Rattle.wire.specs.Meaning.{Nearest, IsNearest, WithinLimits, IsWritten, WritesExactly, RefusesOthers}
use Rattle.wire.proofs.Meaning.{by_units}
use Rattle.wire.proofs.Arms.{whole, beyond, unread, fixless, fixed}
use Rattle.wire.proofs.Limits.{small}

-- ---- a refusal is no position
abbrev tag : Result Wire Refusal → ℕ
tag (Ok w) = 0
tag (Err why) = 1

never : {A : Type 0} (why : Refusal) (w : Wire) → ◌≡◌ {A = Result Wire Refusal} (Err why) (Ok w) → A
never why w e = absurd (let z : ◌≡◌ {A = ℕ} 1 0 = ap tag e in omega arith)

abbrev held : Wire → Result Wire Refusal → Wire
held d (Ok w) = w
held d (Err why) = d

-- ---- an outcome of `to_wire`, and one of `of_position`
read_through
    : (r : Result Content Refusal) (w : Wire) → of_reading r ≡ Ok w
    → (v : Content) × (r ≡ Ok v) × (v.answer ≡ 0) × (of_position v.fix.position ≡ Ok w)
read_through (Err why) w e = never why w e
read_through (Ok v) w e = go (eqb v.answer 0) (eqb-true v.answer 0) e
  where
    go : (c : Bool) → (c ≡ true → v.answer ≡ 0) → cond c (of_position v.fix.position) (Err BeyondTheWire) ≡ Ok w
        → (u : Content) × (◌≡◌ {A = Result Content Refusal} (Ok v) (Ok u)) × (u.answer ≡ 0) × (of_position u.fix.position ≡ Ok w)
    go true y e = (v, refl, y refl, e)
    go false y e = never BeyondTheWire w e

abbrev units : Geodetic → Wire
units p = record { lat = in_units per_degree p.lat_deg; lon = in_units per_degree p.lon_deg; height = in_units per_metre p.height_m }

pub written_of : (p : Geodetic) (w : Wire) → of_position p ≡ Ok w → (writable p ≡ true) × (units p ≡ w)
unfolding of_position
written_of p w = go (writable p)
  where
    go : (b : Bool) → cond b (Ok (units p)) (Err BeyondTheWire) ≡ Ok w → (b ≡ true) × (units p ≡ w)
    go true e = (refl, ap (held w) e)
    go false e = never BeyondTheWire w e

-- ---- the limits, as tests and as facts
pair : (a b : Bool) → (a && b) ≡ true → T a × T b
pair true true h = (tt, tt)
pair true false h = absurd (false≢true h)
pair false b h = absurd (false≢true h)

join : (a b : Bool) → T a × T b → (a && b) ≡ true
join true true h = refl
join true false h = absurd h.1
join false b h = absurd h.0

holds : (b : Bool) → T b → b ≡ true
holds true h = refl
holds false h = absurd h

told : (b : Bool) → b ≡ true → T b
told true h = tt
told false h = absurd (false≢true h)

limited : (p : Geodetic) → writable p ≡ true → WithinLimits p
unfolding writable
limited p h =
    let lat : Bool = within (neg (decimal 90 0)) (decimal 90 0) p.lat_deg in
    let lon : Bool = within (neg (decimal 180 0)) (decimal 180 0) p.lon_deg in
    let height : Bool = within min_height_m max_height_m p.height_m in
    let first : T lat × T (lon && height) = pair lat (lon && height) h in
    let rest : T lon × T height = pair lon height (holds (lon && height) first.1) in
    record {
      lat = pair (le (neg (decimal 90 0)) p.lat_deg) (le p.lat_deg (decimal 90 0)) (holds lat first.0);
      lon = pair (le (neg (decimal 180 0)) p.lon_deg) (le p.lon_deg (decimal 180 0)) (holds lon rest.0);
      height = pair (le min_height_m p.height_m) (le p.height_m max_height_m) (holds height rest.1);
    }

passes : (p : Geodetic) → WithinLimits p → writable p ≡ true
unfolding writable
passes p k =
    let lat : Bool = within (neg (decimal 90 0)) (decimal 90 0) p.lat_deg in
    let lon : Bool = within (neg (decimal 180 0)) (decimal 180 0) p.lon_deg in
    let height : Bool = within min_height_m max_height_m p.height_m in
    let x : lat ≡ true = join (le (neg (decimal 90 0)) p.lat_deg) (le p.lat_deg (decimal 90 0)) k.lat in
    let y : lon ≡ true = join (le (neg (decimal 180 0)) p.lon_deg) (le p.lon_deg (decimal 180 0)) k.lon in
    let z : height ≡ true = join (le min_height_m p.height_m) (le p.height_m max_height_m) k.height in
    join lat (lon && height) (told lat x, told (lon && height) (join lon height (told lon y, told height z)))

-- ---- the nearest whole number of a number
nearest-at : (unit : ℕ) (x : Float) (w : ℤ) → in_units unit x ≡ w → IsNearest unit x w
nearest-at unit x w e s a c p h = subst (Nearest (signed s (a * unit)) c) e (by_units unit x s a c p h).0

nearest-only : (unit n : ℕ) (x : Float) (w : ℤ) → AtMost n x → IsNearest unit x w → w ≡ in_units unit x
nearest-only unit n nan w h k = absurd h
nearest-only unit n (inf s) w h k = absurd h
nearest-only unit n (fin s m e) w h k =
    (by_units unit (fin s m e) s (m * up e) (down e) (down_pos e) (refl, refl)).1 w (k s (m * up e) (down e) (down_pos e) (refl, refl))

-- ---- both ways
is-written : (s : List ℕ) (w : Wire) → to_wire s ≡ Ok w → IsWritten s w
unfolding to_wire
is-written s w e =
    let o = read_through (read_of s) w e in
    let p = o.0.fix.position in
    let q = written_of p w o.3 in
    record {
      content = o.0;
      taken = o.1;
      fix = o.2;
      limited = limited p q.0;
      lat = nearest-at per_degree p.lat_deg w.lat (ap (λ (v : Wire). v.lat) q.1);
      lon = nearest-at per_degree p.lon_deg w.lon (ap (λ (v : Wire). v.lon) q.1);
      height = nearest-at per_metre p.height_m w.height (ap (λ (v : Wire). v.height) q.1);
    }

is_whole : (s : List ℕ) (w : Wire) → IsWritten s w → to_wire s ≡ Ok w
is_whole s w k =
    let p = k.content.fix.position in
    let good : writable p ≡ true = passes p k.limited in
    let few = small p good in
    fixed s k.content k.taken k.fix
    ∙ sym (whole p {b = true} (sym good) refl
    (nearest-only per_degree 90 p.lat_deg w.lat few.lat k.lat)
    (nearest-only per_degree 180 p.lon_deg w.lon few.lon k.lon)
    (nearest-only per_metre 25000 p.height_m w.height few.height k.height))

pub writes-exactly : WritesExactly
writes-exactly s w = (is-written s w, is_whole s w)

others : (s : List ℕ) (v : Content) → read_of s ≡ Ok v → ((w : Wire) → IsWritten s w → ⊥) → to_wire s ≡ Err BeyondTheWire
others s v r none = by_answer (eqb v.answer 0) (eqb-true v.answer 0) (eqb-false v.answer 0)
  where
    p : Geodetic
    p = v.fix.position

    by_place : (b : Bool) → writable p ≡ b → v.answer ≡ 0 → to_wire s ≡ Err BeyondTheWire
    by_place true e f =
        let made : to_wire s ≡ Ok (units p) = fixed s v r f ∙ sym (whole p {b = true} (sym e) refl refl refl refl) in
        absurd (none (units p) (is-written s (units p) made))
    by_place false e f = fixed s v r f ∙ sym (beyond p {b = false} (sym e) refl)

    by_answer : (b : Bool) → (b ≡ true → v.answer ≡ 0) → (b ≡ false → v.answer ≡ 0 → ⊥) → to_wire s ≡ Err BeyondTheWire
    by_answer true t f = by_place (writable p) refl (t refl)
    by_answer false t f = fixless s v r (f refl)

pub refuses-others : RefusesOthers
refuses-others s = (unread s, others s)
