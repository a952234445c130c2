-- Document 02, item 12: what the list and the nearest come to, in words that know nothing of how they are found.
-- Statements only: proofs/ proves each.
use Rattle.std.specs.Prelude.{◌≡◌, ℕ, ◌*◌, ◌^◌, ◌<◌, ◌≤◌, true, false, not, T, ◌↔◌, List, length, ◌≢◌, is_nan, slice_index, Float}
use Rattle.std.specs.Float.Ieee.{lt, le}
use Rattle.std.specs.Float.{inf}
use Rattle.refusals.specs.Refusals.{short_output, torn_file, malformed_record, bad_query, answer_of}
use Rattle.binary64.specs.Steps.{#, decimal, nought, abs, is_finite}
use Rattle.dense.specs.Entries.{nth}
use Rattle.linalg.specs.Vec3.{three, sub, norm}
use Rattle.record.specs.Record.{record_bytes}
use Rattle.reader.specs.Rules.{answer_at}
use Rattle.reader.specs.Read.{record_at, read_of}
use Rattle.near.specs.Near.{records, distance_at, within_answer, places_after, count_after}
use Rattle.near.specs.Near.{no_place, nearest_answer, place_after}

-- ---- the words of the request

-- a fix in the file: a place of it whose record's answer is 0
pub record Fix (file : List ℕ) (k : ℕ) : Type 0 where
  pub below : k < records file
  pub answer : answer_at (record_at file k) ≡ 0

-- a fix "within the radius", "equality included", as binary64 compares
pub record Within (file : List ℕ) (point : List Float) (radius : Float) (k : ℕ) : Type 0 where
  pub fix : Fix file k
  pub near : T (le (distance_at file point k) radius)

-- "the nearest one": "No fix in the file is closer", "and the earliest wins a tie": each fix before it is farther away
pub record Nearest (file : List ℕ) (point : List Float) (k : ℕ) : Type 0 where
  pub fix : Fix file k
  pub closest : (j : ℕ) → Fix file j → T (le (distance_at file point k) (distance_at file point j))
  pub earliest : (j : ℕ) → Fix file j → j < k → T (lt (distance_at file point k) (distance_at file point j))

-- whole records
abbrev pub Whole : List ℕ → Type 0
Whole file = length file ≡ record_bytes * records file

-- the reader takes the record at a place apart
abbrev pub Readable : List ℕ → ℕ → Type 0
Readable file k = answer_of (read_of (record_at file k)) ≡ 0

-- whole records, each of which it takes apart
pub record Sound (file : List ℕ) : Type 0 where
  pub whole : Whole file
  pub read : (k : ℕ) → k < records file → Readable file k

-- whole records, one of which it does not take apart
pub record Malformed (file : List ℕ) : Type 0 where
  pub whole : Whole file
  pub place : ℕ
  pub below : place < records file
  pub unread : Readable file place → ⊥

-- "finite and within 10^8 in size"
pub record GoodSize (x : Float) : Type 0 where
  pub finite : is_finite x ≡ true
  pub size : T (le (abs x) (decimal 100_000_000 0))

-- "the point's coordinates"
abbrev pub GoodPoint : List Float → Type 0
GoodPoint point = (i : ℕ) → i < 3 → GoodSize (nth point i)

pub record GoodQuery (point : List Float) (radius : Float) : Type 0 where
  pub place : GoodPoint point
  pub reach : GoodSize radius
  -- "radius not negative"
  pub positive : T (not (lt radius nought))

-- ---- distances

-- A distance between two points with finite coordinates is a number, so that distances can be ranked.
abbrev pub DistanceIsNumber : Type 0
DistanceIsNumber =
    (a b : List Float) → ((i : ℕ) → i < 3 → is_finite (nth a i) ≡ true) → ((i : ℕ) → i < 3 → is_finite (nth b i) ≡ true)
    → T (not (is_nan (norm (sub a b))))

-- It may be infinite: from the origin to where each coordinate is the greatest binary64 it is.
abbrev pub DistanceMayBeInfinite : Type 0
DistanceMayBeInfinite =
    norm (sub (three (λ i. # 0x7FEFFFFFFFFFFFFF)) (three (λ i. nought))) ≡ inf false

-- ---- what is turned away, and in which order

-- Each number is given exactly where its case is, and the cases are all there are.
pub record WithinAnswered (file : List ℕ) (point : List Float) (radius : Float) (places : List ℕ) : Type 0 where
  -- "A buffer with fewer entries than the file's length divided by 176, rounded down, gets 14, tested first."
  pub short : (within_answer file point radius places ≡ short_output) ↔ (length places < records file)
  pub torn
      : (within_answer file point radius places ≡ torn_file) ↔ ((records file ≤ length places) × (Whole file → ⊥))
  pub malformed
      : (within_answer file point radius places ≡ malformed_record)
      ↔ ((records file ≤ length places) × Malformed file)
  -- "22 bad query, tested after the whole file is read"
  pub bad
      : (within_answer file point radius places ≡ bad_query)
      ↔ ((records file ≤ length places) × (Sound file × (GoodQuery point radius → ⊥)))
  pub answered
      : (within_answer file point radius places ≡ 0)
      ↔ ((records file ≤ length places) × (Sound file × GoodQuery point radius))

abbrev pub WithinAnswers : Type 0
WithinAnswers =
    (file : List ℕ) (point : List Float) (radius : Float) (places : List ℕ) → WithinAnswered file point radius places

pub record NearestAnswered (file : List ℕ) (point : List Float) : Type 0 where
  pub torn : (nearest_answer file point ≡ torn_file) ↔ (Whole file → ⊥)
  pub malformed : (nearest_answer file point ≡ malformed_record) ↔ Malformed file
  pub bad : (nearest_answer file point ≡ bad_query) ↔ (Sound file × (GoodPoint point → ⊥))
  pub answered : (nearest_answer file point ≡ 0) ↔ (Sound file × GoodPoint point)

abbrev pub NearestAnswers : Type 0
NearestAnswers = (file : List ℕ) (point : List Float) → NearestAnswered file point

-- "A refusal changes nothing lent"
abbrev pub LentAsFound : Type 0
LentAsFound =
    (file : List ℕ) (point : List Float) (radius : Float) (places : List ℕ) (found : ℕ)
    → ((within_answer file point radius places ≢ 0)
    → (places_after file point radius places ≡ places) × (count_after file point radius places found ≡ found))
    × ((nearest_answer file point ≢ 0) → place_after file point found ≡ found)

-- ---- the list

-- The first `count` entries of `list` are the places of the fixes within the radius; the others are those of `found`.
pub record Lists (file : List ℕ) (point : List Float) (radius : Float) (found list : List ℕ) (count : ℕ) : Type 0 where
  -- "The list holds each fix within the radius"
  pub each : (k : ℕ) → Within file point radius k → (a : ℕ) × (a < count) × (slice_index list a ≡ k)
  -- "and no other place"
  pub no_other : (a : ℕ) → a < count → Within file point radius (slice_index list a)
  -- "exactly once"
  pub once : (a b : ℕ) → a < count → b < count → slice_index list a ≡ slice_index list b → a ≡ b
  -- "in file order"
  pub ascending : (a b : ℕ) → a < b → b < count → slice_index list a < slice_index list b
  -- "entries past the count stay", and none is more or less
  pub rest : (a : ℕ) → count ≤ a → slice_index list a ≡ slice_index found a
  pub size : length list ≡ length found

abbrev pub ListIsExact : Type 0
ListIsExact =
    (file : List ℕ) (point : List Float) (radius : Float) (places : List ℕ) (found : ℕ)
    → within_answer file point radius places ≡ 0
    → Lists file point radius places (places_after file point radius places) (count_after file point radius places found)

-- ---- the nearest

-- what the place is of a file that is not turned away; a file in memory is shorter than 2^64 bytes
pub record NearestFound (file : List ℕ) (point : List Float) (place : ℕ) : Type 0 where
  -- "The nearest is none exactly when the file has no fix."
  pub none : place ≡ no_place → (k : ℕ) → Fix file k → ⊥
  pub no_fix : ((k : ℕ) → Fix file k → ⊥) → place ≡ no_place
  pub nearest : (place ≢ no_place) → Nearest file point place
  -- and nothing else is
  pub only : (k : ℕ) → Nearest file point k → place ≡ k

abbrev pub NearestIsNearest : Type 0
NearestIsNearest =
    (file : List ℕ) (point : List Float) (found : ℕ) → length file < 2 ^ 64 → nearest_answer file point ≡ 0
    → NearestFound file point (place_after file point found)
