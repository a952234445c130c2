-- The lent memory after each end of a call on positions and on items. Assumes nothing.
use Prim.Native.Nat.{◌^◌, ◌<◌}
use mathlib.Core.Path.{◌≡◌, sym, ap}
use mathlib.Core.List.{List, [], ◌∷◌}
use lib.IntN.{ℤ}
use lib.Signed.{mag}
use lib.Ieee.{Float}
use mir.Syntax.{w32}
use mir.Val.{to_z, of_z}
use mir.ValLaws.{to_z-of_z}
use Rattle.std.specs.Prelude.{Result, Ok, Err}
use Rattle.refusals.specs.declared.Refusal.{Refusal}
use Rattle.refusals.specs.Refusals.{number_of, answer_of}
use Rattle.geo.specs.declared.Geodetic.{Geodetic}
use Rattle.wire.specs.declared.Wire.{Wire}
use Rattle.mlat_solver.specs.Lent.{three_of}
use Rattle.asterix.specs.declared.Multiples.{Multiples}
use Rattle.mlat_solver.specs.Positions as held
use Rattle.mlat_solver.specs.Displays.{multiples_after}

-- an i32 is read back from its bits
again : (z : ℤ) → mag z < 2 ^ 31 → to_z w32 (of_z w32 z) ≡ z
again z h = to_z-of_z w32 z (record { sfits = h })

module _ (x : Result Wire Refusal) (found : List ℤ) where
  pub whole
      : (w : Wire) → x ≡ Ok w → mag w.lat < 2 ^ 31 → mag w.lon < 2 ^ 31 → mag w.height < 2 ^ 31
      → (0 ≡ answer_of x)
      × (to_z w32 (of_z w32 w.lat) ∷ to_z w32 (of_z w32 w.lon) ∷ to_z w32 (of_z w32 w.height) ∷ [] ≡ held.numbers_after x found)
  whole w e a b c = (ap answer_of (sym e), rw (again w.lat a, again w.lon b, again w.height c, e))

  pub unwritten : (why : Refusal) → x ≡ Err why → (number_of why ≡ answer_of x) × (found ≡ held.numbers_after x found)
  unwritten why e = (ap answer_of (sym e), ap (λ (y : Result Wire Refusal). held.numbers_after y found) (sym e))

module _ (x : Result Geodetic Refusal) (found : List Float) where
  pub at : (p : Geodetic) → x ≡ Ok p → (0 ≡ answer_of x) × (three_of p ≡ held.position_after x found)
  at p e = (ap answer_of (sym e), ap (λ (y : Result Geodetic Refusal). held.position_after y found) (sym e))

  pub unplaced : (why : Refusal) → x ≡ Err why → (number_of why ≡ answer_of x) × (found ≡ held.position_after x found)
  unplaced why e = (ap answer_of (sym e), ap (λ (y : Result Geodetic Refusal). held.position_after y found) (sym e))

module _ (x : Result Multiples Refusal) (found : List ℤ) where
  pub three
      : (m : Multiples) → x ≡ Ok m → mag m.lat < 2 ^ 31 → mag m.lon < 2 ^ 31 → mag m.height < 2 ^ 31
      → (0 ≡ answer_of x)
      × (to_z w32 (of_z w32 m.lat) ∷ to_z w32 (of_z w32 m.lon) ∷ to_z w32 (of_z w32 m.height) ∷ [] ≡ multiples_after x found)
  three m e a b c = (ap answer_of (sym e), rw (again m.lat a, again m.lon b, again m.height c, e))

  pub unread : (why : Refusal) → x ≡ Err why → (number_of why ≡ answer_of x) × (found ≡ multiples_after x found)
  unread why e = (ap answer_of (sym e), ap (λ (y : Result Multiples Refusal). multiples_after y found) (sym e))
