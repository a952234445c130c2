-- Document 02, item 1: what reading and writing come to. Statements only: proofs/ proves each.
use Rattle.std.specs.Prelude.{ℕ, ◌+◌, ◌*◌, ◌^◌, ◌<◌, ◌≤◌, ◌≡◌, true, List, T, length, take, get_or, Float, Ok, Err}
use Rattle.std.specs.Float.{binary64}
use Rattle.std.specs.Float.Ieee.{fits}
use Rattle.std.specs.Int.{w64}
use Rattle.std.proofs.Common.{SFits}
use Rattle.refusals.specs.declared.Refusal.TheVariants.{TornFile, MalformedRecord}
use Rattle.refusals.specs.Refusals.{torn_file, no_such_place, malformed_record, answer_of}
use Rattle.dense.specs.Entries.{nth}
use Rattle.record.specs.declared.content.Fix.{Fix}
use Rattle.record.specs.Record.{metres, stored, record_bytes}
use Rattle.reader.specs.declared.content.Content.{Content}
use Rattle.reader.specs.Rules.{Rules}
use Rattle.reader.specs.Tests.{meets_rules}
use Rattle.reader.specs.Read.{place_refusal, record_at, read_of, content_at, write_answer, write_output}

-- a list of bytes
abbrev pub Bytes : List ℕ → Type 0
Bytes s = (j : ℕ) → get_or s j 0 < 256

-- ---- the record at a place

-- a file of m records is refused at no place below m, by 17 at each other, and any other file by 16 at every place
abbrev pub PlacesOfRecords : Type 0
PlacesOfRecords =
    (size place : ℕ)
    → ((m : ℕ) → size ≡ record_bytes * m
    → (place < m → place_refusal size place ≡ 0) × (m ≤ place → place_refusal size place ≡ no_such_place))
    × (((m : ℕ) → size ≡ record_bytes * m → ⊥) → place_refusal size place ≡ torn_file)

-- "the caller's own 176 bytes of the record at a given place": those of the file from 176 times the place on
abbrev pub OwnBytes : Type 0
OwnBytes =
    (file : List ℕ) (place : ℕ) → place_refusal (length file) place ≡ 0
    → (length (record_at file place) ≡ record_bytes)
    × ((j : ℕ) → j < record_bytes → get_or (record_at file place) j 0 ≡ get_or file (record_bytes * place + j) 0)

-- ---- reading

-- the tests that `read` makes are the rules, rule by rule
abbrev pub TestsAreRules : Type 0
TestsAreRules = (s : List ℕ) → Bytes s → (meets_rules s ≡ true → Rules s) × (Rules s → meets_rules s ≡ true)

-- "It takes apart exactly the records that meet these rules."
abbrev pub TakesApartExactly : Type 0
TakesApartExactly =
    (s : List ℕ) → Bytes s
    → ((answer_of (read_of s) ≡ 0) → (length s ≡ record_bytes) × Rules s)
    × ((length s ≡ record_bytes) → Rules s → read_of s ≡ Ok (content_at s))

-- "a length other than 176 is 16", "then 18 malformed record"
abbrev pub TurnsAwayOthers : Type 0
TurnsAwayOthers =
    (s : List ℕ) → Bytes s
    → (((length s ≡ record_bytes) → ⊥) → read_of s ≡ Err TornFile)
    × ((length s ≡ record_bytes) → (Rules s → ⊥) → read_of s ≡ Err MalformedRecord)

-- ---- writing

-- what the types of its fields say of three numbers, of a fix and of a content
pub record HeldThree (v : List Float) : Type 0 where
  pub size : length v ≡ 3
  pub x : T (fits binary64 (nth v 0))
  pub y : T (fits binary64 (nth v 1))
  pub z : T (fits binary64 (nth v 2))

pub record HeldFix (f : Fix) : Type 0 where
  pub mask : f.mask < 2 ^ 32
  pub dof : f.dof < 2 ^ 32
  pub ecef : HeldThree f.ecef
  pub t : T (fits binary64 f.t)
  pub lat : T (fits binary64 f.position.lat_deg)
  pub lon : T (fits binary64 f.position.lon_deg)
  pub height : T (fits binary64 f.position.height_m)
  pub ps : SFits w64 f.transmit_ps
  pub r0 : HeldThree f.r0
  pub r1 : HeldThree f.r1
  pub r2 : HeldThree f.r2
  pub chi2 : T (fits binary64 f.chi2)

pub record Held (v : Content) : Type 0 where
  pub answer : v.answer < 2 ^ 32
  pub detail : v.detail < 2 ^ 32
  pub n : v.n < 2 ^ 32
  pub metres : T (fits binary64 (metres v.altitude))
  pub fix : HeldFix v.fix

-- "Writing a read record gives its bytes again"
abbrev pub WritesWhatWasRead : Type 0
WritesWhatWasRead =
    (s out : List ℕ) (v : Content) → Bytes s → read_of s ≡ Ok v → record_bytes ≤ length out
    → (write_answer v out ≡ 0) × (write_output v out ≡ stored out s)

-- and what was written is read again as the same value
abbrev pub ReadsWhatWasWritten : Type 0
ReadsWhatWasWritten =
    (v : Content) (out : List ℕ) → Held v → write_answer v out ≡ 0
    → read_of (take record_bytes (write_output v out)) ≡ Ok v

-- "any other value gets 18": 18 is given for exactly those that are read from no bytes
abbrev pub RefusesWhatNoReadGives : Type 0
RefusesWhatNoReadGives =
    (v : Content) (out : List ℕ) → Held v → record_bytes ≤ length out
    → (write_answer v out ≡ malformed_record → (s : List ℕ) → Bytes s → (read_of s ≡ Ok v → ⊥))
    × (((s : List ℕ) → Bytes s → (read_of s ≡ Ok v → ⊥)) → write_answer v out ≡ malformed_record)
