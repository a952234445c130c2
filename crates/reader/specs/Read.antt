-- Document 02, item 1: the record at a place of a file, what a record holds, and the bytes of what was read.
-- Definitions only.
use Rattle.std.specs.Prelude.{ℕ, ◌+◌, ◌*◌, ◌/◌, ◌%◌, Bool, cond, ◌&&◌, List, [], ◌∷◌, ltb, eqb, length, take, drop, pos}
use Rattle.std.specs.Prelude.{Float, Result, Ok, Err}
use Rattle.binary64.specs.Steps.{nought}
use Rattle.refusals.specs.declared.Refusal.{Refusal}
use Rattle.refusals.specs.declared.Refusal.TheVariants.{TornFile, MalformedRecord}
use Rattle.refusals.specs.Refusals.{short_output, torn_file, no_such_place, malformed_record}
use Rattle.words.specs.Words.{i64_at, f64_at}
use Rattle.problem.specs.declared.Altitude.{Altitude}
use Rattle.problem.specs.declared.Altitude.TheVariants.{None, Barometric, Gnss}
use Rattle.record.specs.declared.content.Fix.{Fix}
use Rattle.record.specs.Record.{fix, refusal, stored, record_bytes}
use Rattle.reader.specs.declared.content.Content.{Content}
use Rattle.reader.specs.Rules.{answer_at, detail_at, n_at, mask_at, kind_at}
use Rattle.reader.specs.Tests.{zeros, good_n, meets_rules}

-- ---- the record at a place of a file

-- "A file that isn't whole records is refused before its place is looked at": 16 torn file, then 17 no such place
unfoldable pub place_refusal : ℕ → ℕ → ℕ
place_refusal size place = cond (eqb (size % record_bytes) 0)
    (cond (ltb place (size / record_bytes)) 0 no_such_place) torn_file

-- "the caller's own 176 bytes of the record at a given place"; none where it is refused
unfoldable pub record_at : List ℕ → ℕ → List ℕ
record_at file place = cond (eqb (place_refusal (length file) place) 0)
    (take record_bytes (drop (record_bytes * place) file)) []

-- ---- what a record holds: document 01's table

abbrev pub three_at : List ℕ → ℕ → List Float
three_at s k = f64_at s k ∷ f64_at s (k + 8) ∷ f64_at s (k + 16) ∷ []

-- "altitude kind (0 none, 1 barometric, 2 GNSS)"
abbrev pub altitude_of : ℕ → Float → Altitude
altitude_of kind metres = cond (eqb kind 1) (Barometric metres) (cond (eqb kind 2) (Gnss metres) None)

-- "For a fix the answer is 0 and the detail is dof"
unfoldable pub fix_at : List ℕ → Fix
fix_at s = record {
  mask = mask_at s;
  dof = detail_at s;
  ecef = three_at s 16;
  t = f64_at s 40;
  position = record { lat_deg = f64_at s 48; lon_deg = f64_at s 56; height_m = f64_at s 64 };
  transmit_ps = i64_at s 72;
  r0 = three_at s 80;
  r1 = three_at s 104;
  r2 = three_at s 128;
  chi2 = f64_at s 152;
}

-- in place of a fix stands nothing: all zero
abbrev pub no_three : List Float
no_three = nought ∷ nought ∷ nought ∷ []

abbrev pub no_fix : Fix
no_fix = record {
  mask = 0;
  dof = 0;
  ecef = no_three;
  t = nought;
  position = record { lat_deg = nought; lon_deg = nought; height_m = nought };
  transmit_ps = pos 0;
  r0 = no_three;
  r1 = no_three;
  r2 = no_three;
  chi2 = nought;
}

-- a refusal shows "number, detail and (for 1 to 9) n"
abbrev pub refused : ℕ → ℕ → ℕ → Content
refused answer detail n = record {
  answer = answer;
  detail = detail;
  n = n;
  altitude = None;
  fix = no_fix;
}

abbrev pub fixed : List ℕ → Content
fixed s = record {
  answer = 0;
  detail = detail_at s;
  n = n_at s;
  altitude = altitude_of (kind_at s) (f64_at s 168);
  fix = fix_at s;
}

unfoldable pub content_at : List ℕ → Content
unfolding fix_at
content_at s = cond (eqb (answer_at s) 0) (fixed s) (refused (answer_at s) (detail_at s) (n_at s))

-- "a length other than 176 is 16", "18 malformed record"
unfoldable pub read_of : List ℕ → Result Content Refusal
read_of s =
    cond (eqb (length s) record_bytes)
    (cond (meets_rules s) (Ok (content_at s)) (Err MalformedRecord))
    (Err TornFile)

-- what was read; zeros, which mean nothing, where reading was refused
abbrev pub content_of : Result Content Refusal → Content
content_of (Ok v) = v
content_of (Err _) = refused 0 0 0

-- ---- the bytes of what was read

unfoldable pub bytes_of : Content → List ℕ
unfolding fix refusal
bytes_of v = cond (eqb v.answer 0) (fix v.n v.altitude v.fix) (refusal v.answer v.detail v.n)

-- nothing stands beside a refusal: no altitude, and a fix that would be written as zero bytes but for the version
unfoldable pub alone : Content → Bool
alone v = let r = fix 0 v.altitude v.fix in zeros r 0 160 && zeros r 161 15

-- the values that a read gives: their bytes meet the rules, and no field is lost in these
unfoldable pub readable : Content → Bool
unfolding alone
readable v =
    meets_rules (bytes_of v)
    && cond (eqb v.answer 0) (eqb v.detail v.fix.dof) (good_n v.answer v.n && alone v)

-- 14: "under 176 bytes lent"; "any other value gets 18"
unfoldable pub write_answer : Content → List ℕ → ℕ
write_answer v out = cond (ltb (length out) record_bytes) short_output (cond (readable v) 0 malformed_record)

-- the output afterwards: a refusal leaves it as found
unfoldable pub write_output : Content → List ℕ → List ℕ
write_output v out = cond (eqb (write_answer v out) 0) (stored out (bytes_of v)) out
