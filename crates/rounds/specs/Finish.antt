-- `finish` of solve.rs: what a fix shows of a fit, or why it is not published. Definitions only.
use Rattle.std.specs.Prelude.{ℕ, ◌^◌, Bool, true, false, cond, not, ◌&&◌, ◌||◌, List, [], ◌∷◌, replicate, ℤ, pos, negsuc, ◌+ℤ◌, nat_lt, Float}
use Rattle.std.specs.Float.Ieee.{lt, to_signed}
use Rattle.binary64.specs.Steps.{◌⊗◌, ◌⊘◌, decimal, nought}
use Rattle.binary64.specs.Rounding.{half_away}
use Rattle.geo.specs.Geo.{C, from_ecef}
use Rattle.dense.specs.Factor.{Factor, found, refused, cholesky}
use Rattle.dense.specs.Inverse.{inverse}
use Rattle.problem.specs.Problem.{position, transmit_m}
use Rattle.limits.specs.Local.{row, entry, published}
use Rattle.damped.specs.declared.Fit.{Fit}
use Rattle.best.specs.Best.{Outcome, refuses, gives}
use Rattle.record.specs.declared.content.Fix.{Fix}
use Rattle.rounds.specs.declared.finish.Unpublished.{Unpublished}
use Rattle.rounds.specs.declared.finish.Unpublished.TheVariants.{Singular, Uncertain, OutOfRange}

-- whether an i64 holds it
abbrev pub fits_i64 : ℤ → Bool
fits_i64 (pos n) = nat_lt n (2 ^ 63)
fits_i64 (negsuc n) = nat_lt n (2 ^ 63)

-- `transmit`: `reference_ps + (fit.params[3] / C * PS as f64).round() as i128`. `to_signed 127` is the cast to i128.
unfoldable pub transmit_ps : ℤ → Float → ℤ
transmit_ps reference t = reference +ℤ to_signed 127 (half_away (t ⊘ C ⊗ decimal 1_000_000_000_000 0))

-- `MAX_SIGMA_M * MAX_SIGMA_M`
unfoldable pub max_variance_m2 : Float
max_variance_m2 = decimal 1500 0 ⊗ decimal 1500 0

-- `(0..3).any(|axis| covariance[axis][axis] > MAX_SIGMA_M * MAX_SIGMA_M)`
unfoldable pub wide : List (List Float) → Bool
unfolding max_variance_m2
wide c = lt max_variance_m2 (entry c 0 0) || (lt max_variance_m2 (entry c 1 1) || lt max_variance_m2 (entry c 2 2))

-- `is_some` of a factor
abbrev pub definite : Factor → Bool
definite (found l) = true
definite (refused l) = false

-- the Cholesky of its matrix, row by row: `check.cholesky()`
abbrev pub cholesky3 : List (List Float) → Factor
cholesky3 c =
    let check =
    entry c 0 0 ∷ entry c 0 1 ∷ entry c 0 2
    ∷ entry c 1 0 ∷ entry c 1 1 ∷ entry c 1 2
    ∷ entry c 2 0 ∷ entry c 2 1 ∷ entry c 2 2 ∷ [] in
    cholesky check 3 (replicate 9 nought)

-- the covariance passes both tests of `finish`
unfoldable pub certain : List (List Float) → Bool
unfolding wide
certain c = not (wide c) && definite (cholesky3 c)

-- the mask and the degrees of freedom of the used receptions, and their fit
module _ (mask dof : ℕ) (fit : Fit) where
  -- what a fix shows of them, with the covariance c and the transmit time
  abbrev pub fix_of : List (List Float) → ℤ → Fix
  fix_of c ps = record {
    mask = mask;
    dof = dof;
    ecef = position fit.params;
    t = transmit_m fit.params;
    position = from_ecef (position fit.params);
    transmit_ps = ps;
    r0 = row c 0;
    r1 = row c 1;
    r2 = row c 2;
    chi2 = fit.cost;
  }

  -- the tests of the covariance, then of the transmit time
  abbrev pub shown : List (List Float) → ℤ → Outcome Unpublished Fix
  shown c ps = cond (certain c) (cond (fits_i64 ps) (gives (fix_of c ps)) (refuses OutOfRange)) (refuses Uncertain)

-- and the reference
module _ (mask dof : ℕ) (reference : ℤ) (fit : Fit) where
  -- by the factor of the fit's final information
  abbrev pub inverted : Factor → Outcome Unpublished Fix
  inverted (found l) =
      shown mask dof fit (published (inverse l 4 (replicate 16 nought)))
      (transmit_ps reference (transmit_m fit.params))
  inverted (refused l) = refuses Singular

  -- `finish`
  unfoldable pub finish : Outcome Unpublished Fix
  unfolding certain transmit_ps
  finish = inverted (cholesky fit.information 4 (replicate 16 nought))
