-- Document 02, item 13: items I020/041 (latitude, longitude: 32 bits each) and I020/105 (height: 16 bits), one after
-- the other, "all big-endian two's complement"; what is written to lent bytes, and what ten bytes are read as.
-- Definitions only.
use Rattle.std.specs.Prelude.{ℕ, ◌+◌, ◌*◌, ◌/◌, ◌%◌, ◌^◌, Bool, cond, ◌&&◌, List, [], ◌∷◌, eqb, pos, negsuc, length}
use Rattle.std.specs.Prelude.{get_or, Result, Ok, Err}
use Rattle.std.specs.Int.{w16, w32}
use Rattle.std.proofs.Common.{to_z, of_z}
use Rattle.refusals.specs.declared.Refusal.{Refusal}
use Rattle.refusals.specs.declared.Refusal.TheVariants.{BeyondTheItems}
use Rattle.refusals.specs.Refusals.{beyond_the_items}
use Rattle.wire.specs.declared.Wire.{Wire}
use Rattle.wire.specs.Wire.{between}
use Rattle.asterix.specs.declared.Multiples.{Multiples}
use Rattle.asterix.specs.Multiples.{of_wire, on_globe}

-- ---- the ten bytes

-- four bytes of each angle's bits and two of the height's, the highest first
abbrev pub bytes_of : ℕ → ℕ → ℕ → List ℕ
bytes_of lat lon height =
    lat / 2 ^ 24 % 256 ∷ lat / 2 ^ 16 % 256 ∷ lat / 2 ^ 8 % 256 ∷ lat % 256
    ∷ lon / 2 ^ 24 % 256 ∷ lon / 2 ^ 16 % 256 ∷ lon / 2 ^ 8 % 256 ∷ lon % 256
    ∷ height / 2 ^ 8 % 256 ∷ height % 256
    ∷ []

unfoldable pub items : Multiples → List ℕ
items m = bytes_of (of_z w32 m.lat) (of_z w32 m.lon) (of_z w16 m.height)

-- the number in the four bytes of s from byte k on, and in the two, the highest first
abbrev pub four_at : List ℕ → ℕ → ℕ
four_at s k = get_or s k 0 * 2 ^ 24 + get_or s (k + 1) 0 * 2 ^ 16 + get_or s (k + 2) 0 * 2 ^ 8 + get_or s (k + 3) 0

abbrev pub two_at : List ℕ → ℕ → ℕ
two_at s k = get_or s k 0 * 2 ^ 8 + get_or s (k + 1) 0

-- "the three multiples of whichever ten bytes it is given"
unfoldable pub multiples_of : List ℕ → Multiples
multiples_of s = record { lat = to_z w32 (four_at s 0); lon = to_z w32 (four_at s 4); height = to_z w16 (two_at s 8) }

-- ---- the calls: 23 is "tested before the first byte is written", and lent bytes then stay

abbrev pub answer : Bool → ℕ
answer ok = cond ok 0 beyond_the_items

-- neither "a height multiple outside 16 bits, or a length other than ten"
unfoldable pub fitting : Multiples → ℕ → Bool
fitting m len = eqb len 10 && between (negsuc 32767) (pos 32767) m.height

-- writing multiples
unfoldable pub write_answer : Multiples → List ℕ → ℕ
unfolding fitting
write_answer m out = answer (fitting m (length out))

unfoldable pub write_output : Multiples → List ℕ → List ℕ
unfolding fitting items
write_output m out = cond (fitting m (length out)) (items m) out

-- writing the wire's numbers
unfoldable pub exportable : Wire → ℕ → Bool
unfolding on_globe fitting of_wire
exportable w len = on_globe w && fitting (of_wire w) len

unfoldable pub to_answer : Wire → List ℕ → ℕ
unfolding exportable
to_answer w out = answer (exportable w (length out))

unfoldable pub to_output : Wire → List ℕ → List ℕ
unfolding exportable items of_wire
to_output w out = cond (exportable w (length out)) (items (of_wire w)) out

-- reading
unfoldable pub read_items : List ℕ → Result Multiples Refusal
unfolding multiples_of
read_items s = cond (eqb (length s) 10) (Ok (multiples_of s)) (Err BeyondTheItems)
