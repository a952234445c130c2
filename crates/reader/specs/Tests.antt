-- The rules of specs/Rules.antt as tests, in the order in which they are made: `meets_rules` holds exactly where the
-- rules do (`TestsAreRules` of specs/Meaning.antt). Definitions only.
use Rattle.std.specs.Prelude.{ℕ, zero, suc, ◌+◌, ◌*◌, ◌^◌, Bool, true, not, cond, ◌&&◌, ◌||◌, List, leb, ltb, eqb, get_or}
use Rattle.binary64.specs.Steps.{is_finite}
use Rattle.sets.specs.Sets.{count, most_receptions}
use Rattle.sets.specs.Mask.{has}
use Rattle.words.specs.Words.{f64_at}
use Rattle.reader.specs.Rules.{answer_at, detail_at, n_at, mask_at, version_at, kind_at}

-- ---- parts of a test

abbrev pub between : ℕ → ℕ → ℕ → Bool
between low high x = leb low x && leb x high

-- the bytes from k on are zero, so many of them
unfoldable pub zeros : List ℕ → ℕ → ℕ → Bool
zeros s k zero = true
zeros s k (suc i) = zeros s k i && eqb (get_or s (k + i) 0) 0

-- the f64 from byte k on are finite, so many of them
unfoldable pub finite : List ℕ → ℕ → ℕ → Bool
finite s k zero = true
finite s k (suc i) = finite s k i && is_finite (f64_at s (k + 8 * i))

-- ---- the tests

-- "The answer is 0 to 13 or 15"
abbrev pub good_answer : ℕ → Bool
good_answer answer = leb answer 13 || eqb answer 15

-- "A refusal's detail is at most 3 for 1, 1 to 31 for 11, 0 to 31, 100 to 131 or 200 for 12, else 0."
unfoldable pub good_detail : ℕ → ℕ → Bool
good_detail answer detail =
    cond (eqb answer 1) (leb detail 3)
    (cond (eqb answer 11) (between 1 31 detail)
    (cond (eqb answer 12) (leb detail 31 || (between 100 131 detail || eqb detail 200))
    (eqb detail 0)))

-- "n at most 32"; in a refusal the solve shows n "(for 1 to 9)", so it is unused from 10 on
unfoldable pub good_n : ℕ → ℕ → Bool
good_n answer n = leb n (cond (leb answer 9) most_receptions 0)

-- "a mask within n"
unfoldable pub good_mask : ℕ → ℕ → Bool
good_mask mask n = ltb mask (2 ^ n)

-- "a detail equal to its dof". Document 01: "dof: used receptions, plus one with altitude, less 4"
unfoldable pub good_dof : ℕ → ℕ → ℕ → Bool
good_dof mask kind detail = eqb (detail + 4) (count (has mask) most_receptions + cond (eqb kind 0) 0 1)

-- "finite floats": ECEF, T and the position; the covariance and chi2; the altitude metres
unfoldable pub good_floats : List ℕ → Bool
good_floats s = finite s 16 7 && (finite s 80 10 && finite s 168 1)

-- "unused fields are zero": where there is no altitude, its metres are zero bytes
unfoldable pub good_metres : ℕ → List ℕ → Bool
good_metres kind s = not (eqb kind 0) || zeros s 168 8

-- "A fix has version 8, altitude kind 0 to 2, finite floats, a mask within n, and a detail equal to its dof."
-- "fillers .. are zero": five bytes
unfoldable pub good_fix : List ℕ → Bool
good_fix s =
    leb (n_at s) most_receptions
    && (eqb (version_at s) 8
    && (leb (kind_at s) 2
    && (good_floats s
    && (good_mask (mask_at s) (n_at s)
    && (good_dof (mask_at s) (kind_at s) (detail_at s)
    && (zeros s 163 5 && good_metres (kind_at s) s))))))

-- in a refusal all fields past n are unused
unfoldable pub good_refusal : List ℕ → Bool
good_refusal s =
    good_answer (answer_at s)
    && (good_detail (answer_at s) (detail_at s)
    && (good_n (answer_at s) (n_at s)
    && zeros s 12 164))

-- a record is a fix where its answer is 0
unfoldable pub meets_rules : List ℕ → Bool
unfolding good_fix good_refusal good_n good_detail good_floats good_mask good_dof good_metres zeros finite
meets_rules s = cond (eqb (answer_at s) 0) (good_fix s) (good_refusal s)
