-- Document 01, 'The fix: 176 bytes' and 'When there is no fix': the record, by places and what stands there.
-- Definitions only.
use Rattle.std.specs.Prelude.{ℕ, ◌+◌, cond, List, [], ◌∷◌, ◌++◌, leb, ℤ, set, replicate, drop, Float}
use Rattle.binary64.specs.Steps.{nought}
use Rattle.dense.specs.Entries.{nth}
use Rattle.words.specs.Words.{put_u16, put_u32, put_i64, put_f64}
use Rattle.problem.specs.declared.Altitude.{Altitude}
use Rattle.problem.specs.declared.Altitude.TheVariants.{None, Barometric, Gnss}
use Rattle.record.specs.declared.content.Fix.{Fix}

-- what stands at a place
pub data Field : Type 0 where
  u8 : ℕ → Field
  u16 : ℕ → Field
  u32 : ℕ → Field
  i64 : ℤ → Field
  f64 : Float → Field
  three-f64 : List Float → Field

abbrev pub put_three : List ℕ → ℕ → List Float → List ℕ
put_three r k v = put_f64 (put_f64 (put_f64 r k (nth v 0)) (k + 8) (nth v 1)) (k + 16) (nth v 2)

-- a row of the table: from byte k on, this field
pub data Row : Type 0 where
  from : ℕ → Field → Row

abbrev pub written_at : List ℕ → ℕ → Field → List ℕ
written_at r k (u8 x) = set r k x
written_at r k (u16 x) = put_u16 r k x
written_at r k (u32 x) = put_u32 r k x
written_at r k (i64 x) = put_i64 r k x
written_at r k (f64 x) = put_f64 r k x
written_at r k (three-f64 v) = put_three r k v

-- the bytes r with these rows written, one after the other
abbrev pub written : List ℕ → List Row → List ℕ
written r [] = r
written r (from k field ∷ rows) = written (written_at r k field) rows

-- "u32 each: answer number; detail; n, the receptions considered"
abbrev pub head : ℕ → ℕ → ℕ → List Row
head answer detail n = from 0 (u32 answer) ∷ from 4 (u32 detail) ∷ from 8 (u32 n) ∷ []

-- "u8 altitude kind (0 none, 1 barometric, 2 GNSS)"
abbrev pub kind : Altitude → ℕ
kind None = 0
kind (Barometric m) = 1
kind (Gnss m) = 2

-- "altitude metres, f64, zero bytes where none"
abbrev pub metres : Altitude → Float
metres None = nought
metres (Barometric m) = m
metres (Gnss m) = m

-- "u16 `SPEC_VERSION` = 8", the altitude's kind and its metres
abbrev pub foot : Altitude → List Row
foot altitude = from 160 (u16 8) ∷ from 162 (u8 (kind altitude)) ∷ from 168 (f64 (metres altitude)) ∷ []

-- document 01: "The fix: 176 bytes"
abbrev pub record_bytes : ℕ
record_bytes = 176

abbrev pub blank_record : List ℕ
blank_record = replicate record_bytes 0

-- 'The fix: 176 bytes', by its table. "For a fix the answer is 0 and the detail is dof".
unfoldable pub fix : ℕ → Altitude → Fix → List ℕ
fix n altitude f =
    written blank_record
    (head 0 f.dof n
    ++ from 12 (u32 f.mask)
    ∷ from 16 (three-f64 f.ecef)
    ∷ from 40 (f64 f.t)
    ∷ from 48 (f64 f.position.lat_deg)
    ∷ from 56 (f64 f.position.lon_deg)
    ∷ from 64 (f64 f.position.height_m)
    ∷ from 72 (i64 f.transmit_ps)
    ∷ from 80 (three-f64 f.r0)
    ∷ from 104 (three-f64 f.r1)
    ∷ from 128 (three-f64 f.r2)
    ∷ from 152 (f64 f.chi2)
    ∷ foot altitude)

-- "Any other refusal writes number, detail and (for 1 to 9) n; the remaining bytes up to 176 are zero."
unfoldable pub refusal : ℕ → ℕ → ℕ → List ℕ
refusal number detail n = written blank_record (head number detail (cond (leb number 9) n 0))

-- the output once a record is stored: "Bytes past 176 never change."
abbrev pub stored : List ℕ → List ℕ → List ℕ
stored out r = r ++ drop record_bytes out
