-- Document 02, item 1: "It takes apart exactly the records that meet these rules." The rules of a list of 176 bytes,
-- sentence by sentence; the fields stand where document 01's table has them. Definitions only.
use Rattle.std.specs.Prelude.{ℕ, ◌+◌, ◌*◌, ◌<◌, ◌≤◌, ◌≡◌, true, cond, ◌⊎◌, List, T, eqb, get_or}
use Rattle.refusals.specs.Refusals as refusals
use Rattle.binary64.specs.Steps.{is_finite}
use Rattle.sets.specs.Sets.{count, most_receptions}
use Rattle.sets.specs.Mask.{has}
use Rattle.words.specs.Words.{u16_at, u32_at, f64_at}
use Rattle.record.specs.Record.{record_bytes}

-- ---- the fields that a rule names

abbrev pub answer_at : List ℕ → ℕ
answer_at s = u32_at s 0

abbrev pub detail_at : List ℕ → ℕ
detail_at s = u32_at s 4

abbrev pub n_at : List ℕ → ℕ
n_at s = u32_at s 8

abbrev pub mask_at : List ℕ → ℕ
mask_at s = u32_at s 12

abbrev pub version_at : List ℕ → ℕ
version_at s = u16_at s 160

abbrev pub kind_at : List ℕ → ℕ
kind_at s = get_or s 162 0

-- ---- parts of a rule

-- every byte from `from` on and before `to` is zero
abbrev pub Zero : List ℕ → ℕ → ℕ → Type 0
Zero s from to = (j : ℕ) → from ≤ j → j < to → get_or s j 0 ≡ 0

-- the f64 from byte k on is finite
abbrev pub Finite : List ℕ → ℕ → Type 0
Finite s k = is_finite (f64_at s k) ≡ true

-- Document 01: dof is "used receptions, plus one with altitude, less 4", and "the number of ones in the mask is the
-- count of used receptions". Nothing equals a dof below zero.
abbrev pub IsDof : ℕ → ℕ → ℕ → Type 0
IsDof mask kind detail = detail + 4 ≡ count (has mask) most_receptions + cond (eqb kind 0) 0 1

-- ---- the rules

-- "A refusal's detail is at most 3 for 1, 1 to 31 for 11, 0 to 31, 100 to 131 or 200 for 12, else 0."
pub record DetailRule (answer detail : ℕ) : Type 0 where
  pub too_few : answer ≡ refusals.too_few → detail ≤ 3
  pub disorder : answer ≡ refusals.disorder → (1 ≤ detail) × (detail ≤ 31)
  pub bad_field
      : answer ≡ refusals.bad_field → (detail ≤ 31) ⊎ (((100 ≤ detail) × (detail ≤ 131)) ⊎ (detail ≡ 200))
  pub others
      : (answer ≡ refusals.too_few → ⊥) → (answer ≡ refusals.disorder → ⊥)
      → (answer ≡ refusals.bad_field → ⊥) → detail ≡ 0

pub record FixRules (s : List ℕ) : Type 0 where
  -- "A fix has version 8, altitude kind 0 to 2,"
  pub version : version_at s ≡ 8
  pub kind : kind_at s ≤ 2
  -- "finite floats,": ECEF, T and the position from byte 16 on, the covariance and chi2 from 80 on, the altitude metres
  pub places : (i : ℕ) → i < 7 → Finite s (16 + 8 * i)
  pub claims : (i : ℕ) → i < 10 → Finite s (80 + 8 * i)
  pub metres : Finite s 168
  -- "a mask within n,"
  pub mask : (i : ℕ) → T (has (mask_at s) i) → i < n_at s
  -- "and a detail equal to its dof."
  pub dof : IsDof (mask_at s) (kind_at s) (detail_at s)
  -- "fillers and unused fields are zero": the five bytes past the kind, and the metres where there is no altitude
  pub filler : Zero s 163 168
  pub unused : kind_at s ≡ 0 → Zero s 168 record_bytes

pub record RefusalRules (s : List ℕ) : Type 0 where
  pub detail : DetailRule (answer_at s) (detail_at s)
  -- "unused fields are zero": n from 10 on, since a refusal shows it "for 1 to 9", and all that follows n
  pub n : 9 < answer_at s → n_at s ≡ 0
  pub unused : Zero s 12 record_bytes

pub record Rules (s : List ℕ) : Type 0 where
  -- "The answer is 0 to 13 or 15, n at most 32,"
  pub answer : (answer_at s ≤ 13) ⊎ (answer_at s ≡ 15)
  pub n : n_at s ≤ most_receptions
  -- document 01: "For a fix the answer is 0"
  pub fix : answer_at s ≡ 0 → FixRules s
  pub refusal : (answer_at s ≡ 0 → ⊥) → RefusalRules s
