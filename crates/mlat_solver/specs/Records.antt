-- Document 02, item 1, as C has it: what a record holds as six words, eighteen numbers and the transmit time.
-- Definitions and statements only: proofs/Returned.antt proves each.
use Rattle.std.specs.Prelude.{ℕ, ◌*◌, ◌^◌, ◌<◌, ◌≤◌, ◌≡◌, Bool, not, cond, ◌&&◌, ◌||◌, List, [], ◌∷◌, T, leb, ltb, eqb}
use Rattle.std.specs.Prelude.{ℤ, length, take, get_or, Float, Result, Ok, Err}
use Rattle.std.specs.Float.{binary64}
use Rattle.std.specs.Float.Ieee.{fits, to_bits}
use Rattle.std.specs.Int.{w64}
use Rattle.std.proofs.Common.{SFits}
use Rattle.refusals.specs.declared.Refusal.{Refusal}
use Rattle.refusals.specs.Refusals.{short_output, malformed_record}
use Rattle.dense.specs.Entries.{nth}
use Rattle.record.specs.declared.content.Fix.{Fix}
use Rattle.record.specs.Record.{kind, metres, stored, record_bytes}
use Rattle.reader.specs.declared.content.Content.{Content}
use Rattle.reader.specs.Read.{place_refusal, altitude_of, read_of, write_answer, write_output}
use Rattle.reader.specs.Meaning.{Bytes}

-- where a record begins in the caller's file; as found where it is refused
abbrev pub placed_at : ℕ → ℕ → ℕ → ℕ
placed_at size place found = cond (eqb (place_refusal size place) 0) (record_bytes * place) found

-- ---- what was read

-- the version of a fix, and 0 of a refusal
abbrev pub version_of : ℕ → ℕ
version_of answer = cond (eqb answer 0) 8 0

-- answer, detail, n, used mask, version, altitude kind
unfoldable pub words_of : Content → List ℕ
words_of v = v.answer ∷ v.detail ∷ v.n ∷ v.fix.mask ∷ version_of v.answer ∷ kind v.altitude ∷ []

-- ECEF, T, latitude, longitude, height, the covariance by rows, chi2, altitude metres
unfoldable pub numbers_of : Content → List Float
numbers_of v =
    let f = v.fix in
    nth f.ecef 0 ∷ nth f.ecef 1 ∷ nth f.ecef 2 ∷ f.t
    ∷ f.position.lat_deg ∷ f.position.lon_deg ∷ f.position.height_m
    ∷ nth f.r0 0 ∷ nth f.r0 1 ∷ nth f.r0 2
    ∷ nth f.r1 0 ∷ nth f.r1 1 ∷ nth f.r1 2
    ∷ nth f.r2 0 ∷ nth f.r2 1 ∷ nth f.r2 2
    ∷ f.chi2 ∷ metres v.altitude ∷ []

-- the lent memory after a read: a refusal leaves it as found
abbrev pub words_after : Result Content Refusal → List ℕ → List ℕ
words_after (Ok v) found = words_of v
words_after (Err _) found = found

abbrev pub numbers_after : Result Content Refusal → List Float → List Float
numbers_after (Ok v) found = numbers_of v
numbers_after (Err _) found = found

abbrev pub time_after : Result Content Refusal → ℤ → ℤ
time_after (Ok v) found = v.fix.transmit_ps
time_after (Err _) found = found

-- ---- what is to be written

abbrev pub word : List ℕ → ℕ → ℕ
word words i = get_or words i 0

abbrev pub three_from : List Float → ℕ → ℕ → ℕ → List Float
three_from numbers i j k = nth numbers i ∷ nth numbers j ∷ nth numbers k ∷ []

-- "For a fix the answer is 0 and the detail is dof"
abbrev pub dof_of : ℕ → ℕ → ℕ
dof_of answer detail = cond (eqb answer 0) detail 0

unfoldable pub fix_of : List ℕ → List Float → ℤ → Fix
fix_of words numbers time = record {
  mask = word words 3;
  dof = dof_of (word words 0) (word words 1);
  ecef = three_from numbers 0 1 2;
  t = nth numbers 3;
  position = record { lat_deg = nth numbers 4; lon_deg = nth numbers 5; height_m = nth numbers 6 };
  transmit_ps = time;
  r0 = three_from numbers 7 8 9;
  r1 = three_from numbers 10 11 12;
  r2 = three_from numbers 13 14 15;
  chi2 = nth numbers 16;
}

unfoldable pub content_of : List ℕ → List Float → ℤ → Content
unfolding fix_of
content_of words numbers time = record {
  answer = word words 0;
  detail = word words 1;
  n = word words 2;
  altitude = altitude_of (word words 5) (nth numbers 17);
  fix = fix_of words numbers time;
}

-- nothing is lost in the content: the version is the answer's, there is such a kind, and +0 stands for no metres
unfoldable pub whole : List ℕ → List Float → Bool
whole words numbers =
    eqb (word words 4) (version_of (word words 0))
    && (leb (word words 5) 2
    && (not (eqb (word words 5) 0) || eqb (to_bits binary64 (nth numbers 17)) 0))

-- 14 first; then 18 for what `mlat_read_record` could not have given
unfoldable pub record_answer : List ℕ → List Float → ℤ → List ℕ → ℕ
record_answer words numbers time out =
    cond (ltb (length out) record_bytes) short_output
    (cond (whole words numbers) (write_answer (content_of words numbers time) out) malformed_record)

unfoldable pub record_output : List ℕ → List Float → ℤ → List ℕ → List ℕ
record_output words numbers time out = cond (whole words numbers) (write_output (content_of words numbers time) out) out

-- ---- what the calls come to

-- what the types of the lent memory say
pub record Lends (words : List ℕ) (numbers : List Float) (time : ℤ) : Type 0 where
  pub six : length words ≡ 6
  pub small : (i : ℕ) → word words i < 2 ^ 32
  pub eighteen : length numbers ≡ 18
  pub floats : (i : ℕ) → i < 18 → T (fits binary64 (nth numbers i))
  pub signed : SFits w64 time

-- these words and numbers, and this time, are what is read from s
pub record ReadFrom (s words : List ℕ) (numbers : List Float) (time : ℤ) : Type 0 where
  pub content : Content
  pub answered : read_of s ≡ Ok content
  pub in_words : words_of content ≡ words
  pub in_numbers : numbers_of content ≡ numbers
  pub in_time : content.fix.transmit_ps ≡ time

-- "Writing a read record gives its bytes again"
abbrev pub RecordsWrittenAgain : Type 0
RecordsWrittenAgain =
    (s out words : List ℕ) (numbers : List Float) (time : ℤ) → Bytes s → ReadFrom s words numbers time
    → record_bytes ≤ length out
    → (record_answer words numbers time out ≡ 0) × (record_output words numbers time out ≡ stored out s)

-- and what was written is read again
abbrev pub RecordsReadAgain : Type 0
RecordsReadAgain =
    (words : List ℕ) (numbers : List Float) (time : ℤ) (out : List ℕ) → Lends words numbers time
    → record_answer words numbers time out ≡ 0
    → ReadFrom (take record_bytes (record_output words numbers time out)) words numbers time

-- "any other value gets 18"
abbrev pub RecordsRefused : Type 0
RecordsRefused =
    (words : List ℕ) (numbers : List Float) (time : ℤ) (out : List ℕ) → Lends words numbers time
    → record_bytes ≤ length out
    → (record_answer words numbers time out ≡ malformed_record
    → (s : List ℕ) → Bytes s → ReadFrom s words numbers time → ⊥)
    × (((s : List ℕ) → Bytes s → ReadFrom s words numbers time → ⊥)
    → record_answer words numbers time out ≡ malformed_record)
