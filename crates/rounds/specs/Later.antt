-- "The source's remaining steps at that round's best fit give the fix or its refusal by 3, 5, 6 or 9": what has to hold
-- for each, in document 01's words. Statements only; proofs/Exact.antt proves that `later` gives each exactly then.
use Rattle.std.specs.Prelude.{◌≡◌, ℕ, ◌<◌, not, T, ◌⊎◌, List, replicate, ℤ, Float}
use Rattle.std.specs.Float.Ieee.{lt}
use Rattle.binary64.specs.Steps.{nought}
use Rattle.dense.specs.Factor.{Factor, found, refused, cholesky}
use Rattle.dense.specs.Inverse.{inverse}
use Rattle.sets.specs.Sets.{Subset}
use Rattle.sets.specs.Mask.{mask_of}
use Rattle.problem.specs.Problem.{transmit_m}
use Rattle.limits.specs.Local.{entry, published}
use Rattle.damped.specs.declared.Fit.{Fit}
use Rattle.best.specs.OfProblem.{Receptions, whitener_over, chosen_over}
use Rattle.record.specs.declared.content.Fix.{Fix}
use Rattle.rounds.specs.declared.finish.Unpublished.{Unpublished}
use Rattle.rounds.specs.declared.finish.Unpublished.TheVariants.{Inconsistent, Singular, Uncertain, OutOfRange}
use Rattle.rounds.specs.Finish.{fits_i64, max_variance_m2, cholesky3, transmit_ps, fix_of}
use Rattle.rounds.specs.Solve.{limit_at, dof_of}

-- ---- a covariance c of three rows

-- "a variance above 1,500², or the 3 × 3 Cholesky fails"
pub data TooWide (c : List (List Float)) : Type 0 where
  variance : (axis : ℕ) → axis < 3 → T (lt max_variance_m2 (entry c axis axis)) → TooWide c
  indefinite : (l : List Float) → cholesky3 c ≡ refused l → TooWide c

-- neither
pub record Certain (c : List (List Float)) : Type 0 where
  pub narrow : (axis : ℕ) → axis < 3 → T (not (lt max_variance_m2 (entry c axis axis)))
  pub factor : List Float
  pub definite : cholesky3 c ≡ found factor

-- ---- the fit at which the rounds settled

-- the Cholesky of its final information, and the covariance that is published with the factor
abbrev pub final_factor : Fit → Factor
final_factor fit = cholesky fit.information 4 (replicate 16 nought)

abbrev pub covariance_by : List Float → List (List Float)
covariance_by m = published (inverse m 4 (replicate 16 nought))

-- the transmit time
abbrev pub transmit : ℤ → Fit → ℤ
transmit reference fit = transmit_ps reference (transmit_m fit.params)

-- over the receptions S of R
module _ (R : Receptions) (reference : ℤ) (S : Subset) (fit : Fit) where
  -- the limit of chi-square where l whitens them: `published_chi2_limit` for the fix's dof
  abbrev pub limit_by : List Float → Float
  limit_by l = limit_at (chosen_over R S l) (dof_of R S) fit.params

  -- l whitens them, and chi-square is not above the limit
  pub record Consistent (l : List Float) : Type 0 where
    pub whitens : whitener_over R S ≡ found l
    pub within : T (not (lt (limit_by l) fit.cost))

  -- and the final information has the factor m
  pub record Informed (l m : List Float) : Type 0 where
    pub consistent : Consistent l
    pub factors : final_factor fit ≡ found m

  -- the fix is published, and shows x: every test is passed
  pub record Published (x : Fix) : Type 0 where
    pub l : List Float
    pub m : List Float
    pub informed : Informed l m
    pub certain : Certain (covariance_by m)
    pub in_i64 : T (fits_i64 (transmit reference fit))
    pub shows : x ≡ fix_of (mask_of S R.n) (dof_of R S) fit (covariance_by m) (transmit reference fit)

  -- it is withheld: 6, "a Cholesky of covariance or final information fails"; 5, "chi2 above `published_chi2_limit`";
  -- 9, "a variance above 1,500², or the 3 × 3 Cholesky fails"; 3, "the transmit time leaves i64". Each after the tests
  -- before it.
  abbrev pub Withheld : Unpublished → Type 0
  Withheld Singular =
      ((l : List Float) × (whitener_over R S ≡ refused l))
      ⊎ ((l : List Float) × (m : List Float) × Consistent l × (final_factor fit ≡ refused m))
  Withheld Inconsistent = (l : List Float) × (whitener_over R S ≡ found l) × T (lt (limit_by l) fit.cost)
  Withheld Uncertain = (l : List Float) × (m : List Float) × Informed l m × TooWide (covariance_by m)
  Withheld OutOfRange =
      (l : List Float) × (m : List Float) × Informed l m × Certain (covariance_by m)
      × T (not (fits_i64 (transmit reference fit)))
