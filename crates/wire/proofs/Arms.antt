-- The ends of `of_position`, of `to_wire` and of `from_wire`. Assumes nothing.
use mathlib.Core.Path.{◌≡◌}
use mathlib.Core.Bool.{Bool, true, false}
use mathlib.Core.List.{List}
use Prim.Native.Nat.{ℕ}
use lib.IntN.{ℤ}
use lib.Ieee.{Float}
use borrow.Author.Tests.{eq-eqb, ne_eqb}
use Rattle.geo.specs.declared.Geodetic.{Geodetic}
use Rattle.std.specs.Prelude.{Result, Ok, Err}
use Rattle.refusals.specs.declared.Refusal.{Refusal}
use Rattle.refusals.specs.declared.Refusal.TheVariants.{BeyondTheWire}
use Rattle.reader.specs.declared.content.Content.{Content}
use Rattle.reader.specs.Read.{read_of}
use Rattle.wire.specs.declared.Wire.{Wire}
use Rattle.wire.specs.Wire.{per_degree, per_metre, in_units, writable, of_position, to_wire, readable, back, from_wire}

module _ (p : Geodetic) {b : Bool} (e : b ≡ writable p) where
  pub whole
      : {lat lon height : ℤ} → b ≡ true → lat ≡ in_units per_degree p.lat_deg → lon ≡ in_units per_degree p.lon_deg
      → height ≡ in_units per_metre p.height_m
      → ◌≡◌ {A = Result Wire Refusal} (Ok (record { lat = lat; lon = lon; height = height })) (of_position p)
  unfolding of_position
  whole t x y z = rw (← e, t, x, y, z)

  pub beyond : b ≡ false → ◌≡◌ {A = Result Wire Refusal} (Err BeyondTheWire) (of_position p)
  unfolding of_position
  beyond t = rw (← e, t)

module _ (s : List ℕ) where
  pub unread : (why : Refusal) → read_of s ≡ Err why → to_wire s ≡ Err why
  unfolding to_wire
  unread why e = rw e

  pub fixless : (v : Content) → read_of s ≡ Ok v → (v.answer ≡ 0 → ⊥) → to_wire s ≡ Err BeyondTheWire
  unfolding to_wire
  fixless v e n = rw (e, ne_eqb v.answer 0 n)

  pub fixed : (v : Content) → read_of s ≡ Ok v → v.answer ≡ 0 → to_wire s ≡ of_position v.fix.position
  unfolding to_wire
  fixed v e z = rw (e, eq-eqb v.answer 0 z)

module _ (w : Wire) {b : Bool} (e : b ≡ readable w) where
  pub at
      : {lat lon height : Float} → b ≡ true → lat ≡ back per_degree w.lat → lon ≡ back per_degree w.lon → height ≡ back per_metre w.height
      → ◌≡◌ {A = Result Geodetic Refusal} (Ok (record { lat_deg = lat; lon_deg = lon; height_m = height })) (from_wire w)
  unfolding from_wire
  at t x y z = rw (← e, t, x, y, z)

  pub beyond-limits : b ≡ false → ◌≡◌ {A = Result Geodetic Refusal} (Err BeyondTheWire) (from_wire w)
  unfolding from_wire
  beyond-limits t = rw (← e, t)
