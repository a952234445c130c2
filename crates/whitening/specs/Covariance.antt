-- The timing covariance of the chosen receptions `index` of n, square metres: `covariance`, `sigma` and `whitener` of
-- solve.rs. Definitions only.
use Rattle.std.specs.Prelude.{cond, List, ℕ, zero, suc, ◌+◌, ◌-◌, eqb, Float}
use Rattle.binary64.specs.Steps.{◌⊕◌}
use Rattle.binary64.specs.Root.{root}
use Rattle.dense.specs.Entries.{nth, at, put}
use Rattle.dense.specs.Factor.{Factor, cholesky}
use Rattle.linalg.specs.Methods.{zeros}
use Rattle.problem.specs.Gathered.{pick}

-- n receptions with their clock covariance and noise
module _ (clock : List Float) (n : ℕ) (noise : List Float) where
  -- `sigma` of reception i
  unfoldable pub sigma : ℕ → Float
  sigma i = root (at clock n i i ⊕ nth noise i)

  -- those of `index`, of which k are chosen
  module _ (index : List ℕ) where
    -- `value` of the a-th and the b-th chosen: `clock[*i][*j]`, plus the noise where a == b
    unfoldable pub shared : ℕ → ℕ → Float
    shared a b =
        let value = at clock n (pick index a) (pick index b) in
        cond (eqb a b) (value ⊕ nth noise (pick index a)) value

    -- `for (b, j) in subset.iter().enumerate().skip(a)`, after m turns: the value of a and b = a + m stands at both
    -- mirrored places of a matrix of size k
    unfoldable pub covariance_row_to : ℕ → ℕ → List Float → ℕ → List Float
    covariance_row_to k a sigma zero = sigma
    covariance_row_to k a sigma (suc m) =
        let value = shared a (a + m) in
        put (put (covariance_row_to k a sigma m) k a (a + m) value) k (a + m) a value

    -- `for (a, i) in subset.iter().enumerate()`, after a turns
    unfoldable pub covariance_to : ℕ → List Float → ℕ → List Float
    covariance_to k sigma zero = sigma
    covariance_to k sigma (suc a) = covariance_row_to k a (covariance_to k sigma a) (k - a)

    -- `covariance`, in the array of a `Matrix`: all k rows
    abbrev pub covariance : ℕ → List Float
    covariance k = covariance_to k zeros k

    -- `whitener`, in the array l
    unfoldable pub whitener : ℕ → List Float → Factor
    whitener k l = cholesky (covariance k) k l
