-- Document 01, 'The fix: 176 bytes': what stands at each place of the record of a fix, read back. Statements only:
-- proofs/Stood.antt proves them.
use Rattle.std.specs.Prelude.{ℕ, ◌+◌, ◌*◌, ◌^◌, ◌%◌, ◌<◌, ◌≡◌, List, T, length, get_or, Float}
use Rattle.std.specs.Float.{binary64}
use Rattle.std.specs.Float.Ieee.{fits, to_bits}
use Rattle.std.specs.Int.{w64}
use Rattle.std.proofs.Common.{SFits}
use Rattle.dense.specs.Entries.{nth}
use Rattle.words.specs.Words.{u16_at, u32_at, u64_at, i64_at, f64_at}
use Rattle.problem.specs.declared.Altitude.{Altitude}
use Rattle.record.specs.declared.content.Fix.{Fix}
use Rattle.record.specs.Record as shown
use Rattle.record.specs.Record.{record_bytes}
use Rattle.reader.specs.Rules.{Zero}

-- '"f64" is a binary64 by its bits': those of x stand from byte k on
abbrev pub Shows : List ℕ → ℕ → Float → Type 0
Shows s k x = u64_at s k ≡ to_bits binary64 x % 2 ^ 64

-- a binary64 that is shown is read back
abbrev pub ShownIsRead : Type 0
ShownIsRead = (s : List ℕ) (k : ℕ) (x : Float) → T (fits binary64 x) → Shows s k x → f64_at s k ≡ x

-- the bytes s show the fix f of n receptions, with this altitude
pub record Stands (s : List ℕ) (n : ℕ) (altitude : Altitude) (f : Fix) : Type 0 where
  pub size : length s ≡ record_bytes
  -- "u32 each: answer number; detail; n, the receptions considered". "For a fix the answer is 0 and the detail is dof".
  pub answer : u32_at s 0 ≡ 0
  pub detail : u32_at s 4 ≡ f.dof
  pub considered : u32_at s 8 ≡ n
  -- "u32 used mask"
  pub mask : u32_at s 12 ≡ f.mask
  -- "ECEF, three f64, metres; T, f64"
  pub ecef : (j : ℕ) → j < 3 → Shows s (16 + 8 * j) (nth f.ecef j)
  pub t : Shows s 40 f.t
  -- "latitude, longitude (degrees), height (m above WGS 84), f64"
  pub lat : Shows s 48 f.position.lat_deg
  pub lon : Shows s 56 f.position.lon_deg
  pub height : Shows s 64 f.position.height_m
  -- "i64 transmit time, ps"
  pub transmit : i64_at s 72 ≡ f.transmit_ps
  -- "covariance, nine f64, rows in order"
  pub r0 : (j : ℕ) → j < 3 → Shows s (80 + 8 * j) (nth f.r0 j)
  pub r1 : (j : ℕ) → j < 3 → Shows s (104 + 8 * j) (nth f.r1 j)
  pub r2 : (j : ℕ) → j < 3 → Shows s (128 + 8 * j) (nth f.r2 j)
  -- "chi2, f64"
  pub chi2 : Shows s 152 f.chi2
  -- "u16 `SPEC_VERSION` = 8; u8 altitude kind (0 none, 1 barometric, 2 GNSS); five zero bytes follow"
  pub version : u16_at s 160 ≡ 8
  pub kind : get_or s 162 0 ≡ shown.kind altitude
  pub filler : Zero s 163 168
  -- "altitude metres, f64, zero bytes where none"
  pub metres : Shows s 168 (shown.metres altitude)
  pub none : shown.kind altitude ≡ 0 → Zero s 168 record_bytes

-- the record of every fix is that, where its whole numbers are such as their fields can hold
abbrev pub FixStands : Type 0
FixStands =
    (n : ℕ) (altitude : Altitude) (f : Fix)
    → n < 2 ^ 32 → f.dof < 2 ^ 32 → f.mask < 2 ^ 32 → SFits w64 f.transmit_ps
    → Stands (shown.fix n altitude f) n altitude f
