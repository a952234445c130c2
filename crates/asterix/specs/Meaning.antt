-- Document 02, item 13: what writing and reading the items come to, in whole numbers. Statements only: proofs/ proves
-- each.
use Rattle.std.specs.Prelude.{◌≡◌, true, List, ℕ, ◌+◌, ◌*◌, ◌^◌, ◌<◌, ◌≤◌, ℤ, pos, nat_abs, ◌-ℤ◌, ◌*ℤ◌, length, Ok}
use Rattle.std.specs.Int.{w16, w32}
use Rattle.std.proofs.Common.{SFits}
use Rattle.refusals.specs.Refusals.{beyond_the_items}
use Rattle.reader.specs.Meaning.{Bytes}
use Rattle.wire.specs.Nearest.{signed}
use Rattle.wire.specs.Meaning.{Nearest}
use Rattle.wire.specs.Wire.{per_degree}
use Rattle.wire.specs.declared.Wire.{Wire}
use Rattle.asterix.specs.declared.Multiples.{Multiples}
use Rattle.asterix.specs.Multiples.{half_turn, half_turn_wire, step_mm, angle, level, turned, of_wire}
use Rattle.asterix.specs.Items.{items, write_answer, write_output, to_answer, to_output, read_items}

-- ---- the nearest multiple, over whole numbers

-- "the nearest .. multiples of 180/2^25 degree .., halves away from zero": of w units of the wire `angle` is that
-- multiple, and no other is
abbrev pub AngleIsNearest : Type 0
AngleIsNearest =
    (w : ℤ)
    → Nearest (w *ℤ pos half_turn) half_turn_wire (angle w)
    × ((m : ℤ) → Nearest (w *ℤ pos half_turn) half_turn_wire m → m ≡ angle w)

-- "the nearest .. multiple of 6.25 ft": of so many millimetres `level` is that multiple, and no other is
abbrev pub LevelIsNearest : Type 0
LevelIsNearest = (mm : ℤ) → Nearest mm step_mm (level mm) × ((m : ℤ) → Nearest mm step_mm m → m ≡ level mm)

-- no whole number of the wire lies halfway between two multiples, so that "halves away from zero" never decides
abbrev pub NoHalves : Type 0
NoHalves =
    ((w m : ℤ) → 2 * nat_abs (m *ℤ pos half_turn_wire -ℤ w *ℤ pos half_turn) ≡ half_turn_wire → ⊥)
    × ((mm m : ℤ) → 2 * nat_abs (m *ℤ pos step_mm -ℤ mm) ≡ step_mm → ⊥)

-- "A longitude that comes to 2^25, which is 180 degrees, becomes -2^25": those within 26 units of the wire of 180
-- degrees, east or west, are -2 ^ 25; every other keeps its nearest multiple
abbrev pub TurnsAtTheEnd : Type 0
TurnsAtTheEnd =
    (w : ℤ) → nat_abs w ≤ half_turn_wire
    → (half_turn_wire ≤ nat_abs w + 26 → turned (angle w) ≡ signed true half_turn)
    × (nat_abs w + 26 < half_turn_wire → turned (angle w) ≡ angle w)

-- ---- which calls write, and what

-- ten bytes are lent, the place is not "beyond ±90 or .. beyond ±180 degrees", and 16 bits hold the height's multiple
pub record IsExported (w : Wire) (len : ℕ) : Type 0 where
  pub ten : len ≡ 10
  pub lat : nat_abs w.lat ≤ 90 * per_degree
  pub lon : nat_abs w.lon ≤ 180 * per_degree
  pub height : SFits w16 (level w.height)

-- exactly such calls write, the nearest multiples; every other gets 23, and lent bytes stay
abbrev pub ExportsExactly : Type 0
ExportsExactly =
    (w : Wire) (out : List ℕ)
    → (IsExported w (length out) → (to_answer w out ≡ 0) × (to_output w out ≡ items (of_wire w)))
    × ((IsExported w (length out) → ⊥) → (to_answer w out ≡ beyond_the_items) × (to_output w out ≡ out))

-- "neither call testing the place": multiples are written exactly where ten bytes are lent and 16 bits hold the height
abbrev pub WritesExactly : Type 0
WritesExactly =
    (m : Multiples) (out : List ℕ)
    → (length out ≡ 10 → SFits w16 m.height → (write_answer m out ≡ 0) × (write_output m out ≡ items m))
    × (((length out ≡ 10) × SFits w16 m.height → ⊥)
    → (write_answer m out ≡ beyond_the_items) × (write_output m out ≡ out))

-- "the item's range ends below 180": latitude is within ±2 ^ 24, longitude from -2 ^ 25 on and below 2 ^ 25
pub record InRange (m : Multiples) : Type 0 where
  pub lat : nat_abs m.lat ≤ 2 ^ 24
  pub lon-size : nat_abs m.lon ≤ 2 ^ 25
  pub lon-end : m.lon ≡ pos (2 ^ 25) → ⊥

-- what is exported reads as the nearest multiples, and these are in the items' range
abbrev pub ExportsInRange : Type 0
ExportsInRange =
    (w : Wire) (out : List ℕ) → to_answer w out ≡ 0
    → (read_items (to_output w out) ≡ Ok (of_wire w)) × InRange (of_wire w)

-- ---- there and back

-- "A reader of the two items returns the three multiples of whichever ten bytes it is given, and writing these
-- multiples .. gives the same ten."
abbrev pub TenComeBack : Type 0
TenComeBack =
    (s out : List ℕ) → Bytes s → length s ≡ 10 → length out ≡ 10
    → (m : Multiples) × (read_items s ≡ Ok m) × (write_answer m out ≡ 0) × (write_output m out ≡ s)

-- and multiples that are written are read as the same
abbrev pub MultiplesComeBack : Type 0
MultiplesComeBack =
    (m : Multiples) (out : List ℕ) → SFits w32 m.lat → SFits w32 m.lon → write_answer m out ≡ 0
    → read_items (write_output m out) ≡ Ok m
