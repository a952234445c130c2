-- Document 02, item 12: "from a file of fix records, those within a radius of an ECEF point and the nearest one".
-- Definitions only.
use Rattle.std.specs.Prelude.{ℕ, zero, suc, ◌-◌, ◌/◌, ◌%◌, ◌^◌, Bool, true, false, cond, not, ◌&&◌, List, length, ◌==◌, nat_lt, Float}
use Rattle.std.proofs.Math.Option.{Option, none, some}
use Rattle.std.specs.Float.Ieee.{lt, le}
use Rattle.refusals.specs.Refusals.{short_output, torn_file, malformed_record, bad_query, answer_of}
use Rattle.binary64.specs.Steps.{decimal, nought, abs, is_finite}
use Rattle.dense.specs.Entries.{nth}
use Rattle.linalg.specs.Vec3.{sub, norm}
use Rattle.sets.specs.Sets.{Subset, count, members_to}
use Rattle.sets.specs.Choice.{choose}
use Rattle.record.specs.Record.{record_bytes}
use Rattle.reader.specs.Rules.{answer_at}
use Rattle.reader.specs.Read.{record_at, three_at, read_of}
use Rattle.near.specs.declared.Held.{Held}

-- ---- the file

-- "the file's length divided by 176, rounded down"
abbrev pub records : List ℕ → ℕ
records file = length file / record_bytes

-- whether the record at a place is one that the reader takes apart, and whether those at the places below k are
abbrev pub readable : List ℕ → ℕ → Bool
readable file k = answer_of (read_of (record_at file k)) == 0

unfoldable pub readable_to : List ℕ → ℕ → Bool
readable_to file zero = true
readable_to file (suc k) = readable_to file k && readable file k

-- whether a record is a fix; document 01: "For a fix the answer is 0". "refused solves in the file are passed over"
unfoldable pub is_fix : List ℕ → Bool
is_fix r = answer_at r == 0

-- the places with a fix
abbrev pub fixes : List ℕ → Subset
fixes file k = is_fix (record_at file k)

-- "Distances are `norm` of `sub` in f64": of a record's ECEF position, document 01's bytes 16 to 39, and the point
unfoldable pub distance : List Float → List ℕ → Float
distance point r = norm (sub (three_at r 16) point)

abbrev pub distance_at : List ℕ → List Float → ℕ → Float
distance_at file point k = distance point (record_at file k)

-- ---- the query

-- 10^8 metres
unfoldable pub farthest : Float
farthest = decimal 100_000_000 0

-- "finite and within 10^8 in size"
unfoldable pub good_size : Float → Bool
good_size x = is_finite x && le (abs x) farthest

-- "the point's coordinates"
unfoldable pub good_point : List Float → Bool
good_point point = good_size (nth point 0) && (good_size (nth point 1) && good_size (nth point 2))

-- "radius not negative": -0 is not
unfoldable pub good_radius : Float → Bool
good_radius radius = good_size radius && not (lt radius nought)

-- ---- what is turned away

-- 16 where the file is not whole records, then 18 where one of them is none that the reader takes apart
unfoldable pub file_refusal : List ℕ → ℕ
file_refusal file =
    cond (length file % record_bytes == 0) (cond (readable_to file (records file)) 0 malformed_record) torn_file

-- "22 bad query, tested after the whole file is read"
unfoldable pub query_refusal : List ℕ → Bool → ℕ
query_refusal file good = cond (file_refusal file == 0) (cond good 0 bad_query) (file_refusal file)

-- ---- those within a radius

-- a fix "within the radius", "equality included"
unfoldable pub is_near : List Float → Float → List ℕ → Bool
is_near point radius r = is_fix r && le (distance point r) radius

-- the places with such a fix
abbrev pub within : List ℕ → List Float → Float → Subset
within file point radius k = is_near point radius (record_at file k)

-- "A buffer with fewer entries than the file's length divided by 176, rounded down, gets 14, tested first."
unfoldable pub within_answer : List ℕ → List Float → Float → List ℕ → ℕ
within_answer file point radius places =
    cond (nat_lt (length places) (records file)) short_output (query_refusal file (good_point point && good_radius radius))

-- the lent buffer afterwards: those places "in file order", and "entries past the count stay". "A refusal changes
-- nothing lent"
unfoldable pub places_after : List ℕ → List Float → Float → List ℕ → List ℕ
places_after file point radius places =
    cond (within_answer file point radius places == 0)
    (members_to (within file point radius) places (records file))
    places

-- and "its count"
unfoldable pub count_after : List ℕ → List Float → Float → List ℕ → ℕ → ℕ
count_after file point radius places found =
    cond (within_answer file point radius places == 0) (count (within file point radius) (records file)) found

-- ---- the nearest

-- i is closer than j
abbrev pub closer : List ℕ → List Float → ℕ → ℕ → Bool
closer file point i j = lt (distance_at file point i) (distance_at file point j)

-- the nearest of the fixes at the places below k: "the earliest wins a tie"
abbrev pub nearest_to : List ℕ → List Float → ℕ → Option ℕ
nearest_to file point k = choose (fixes file) (closer file point) k

abbrev pub nearest : List ℕ → List Float → Option ℕ
nearest file point = nearest_to file point (records file)

-- the greatest u64 stands for none
abbrev pub no_place : ℕ
no_place = 2 ^ 64 - 1

unfoldable pub place_of : Option ℕ → ℕ
place_of none = no_place
place_of (some k) = k

unfoldable pub nearest_answer : List ℕ → List Float → ℕ
nearest_answer file point = query_refusal file (good_point point)

unfoldable pub place_after : List ℕ → List Float → ℕ → ℕ
place_after file point found = cond (nearest_answer file point == 0) (place_of (nearest file point)) found

-- ---- how the code finds it

-- none so far
abbrev pub none_held : Held
none_held = record { found = false; place = no_place; distance = nought }

-- the nearest so far with its distance, from which the next is to be closer
unfoldable pub held_of : (ℕ → Float) → Option ℕ → Held
held_of distances none = none_held
held_of distances (some k) = record { found = true; place = k; distance = distances k }

abbrev pub held_to : List ℕ → List Float → ℕ → Held
held_to file point k = held_of (distance_at file point) (nearest_to file point k)

-- that, once the record at place k is looked at: whether it is a fix, and its distance
unfoldable pub step : Bool → ℕ → Float → Held → Held
step fix k d held =
    cond fix
    (cond (held.found && not (lt d held.distance)) held (record { found = true; place = k; distance = d }))
    held
