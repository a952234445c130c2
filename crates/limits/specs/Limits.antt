-- The limits on chi-square of solve.rs, by the steps of binary64. Definitions only.
use Rattle.std.specs.Prelude.{ℕ, ◌+◌, ◌-◌, Bool, cond, List, eqb, pos, Float}
use Rattle.std.specs.Float.{binary64}
use Rattle.std.specs.Float.Ieee.{of_int}
use Rattle.binary64.specs.Steps.{◌⊕◌, ◌⊖◌, ◌⊗◌, ◌⊘◌, decimal, nought, one, two, abs}
use Rattle.binary64.specs.Root.{root}
use Rattle.dense.specs.Entries.{nth, dots}

-- Document 01: "dof: used receptions, plus one with altitude, less 4"
abbrev pub dof : ℕ → Bool → ℕ
dof used altitude = used + cond altitude 1 0 - 4

-- `CHI2_TAIL_Z`: "The chi-square test's tail probability is 10^-6; this is its standard normal quantile."
unfoldable pub chi2_tail_z : Float
chi2_tail_z = decimal 4753424 6

-- `chi2_limit`: Wilson and Hilferty's value at `CHI2_TAIL_Z`. Document 01: "`chi2_limit(0)` is 0."
unfoldable pub chi2_limit : ℕ → Float
chi2_limit n =
    let k = of_int binary64 (pos n) in
    let a = two ⊘ (decimal 9 0 ⊗ k) in
    let base = one ⊖ a ⊕ chi2_tail_z ⊗ root a in
    cond (eqb n 0) nought (k ⊗ (base ⊗ base ⊗ base))

-- `ROUNDING_M`: "what writing a solution moves it by at most", metres, on each ECEF axis and for the transmit time
unfoldable pub rounding_x_m : Float
rounding_x_m = decimal 79 4 ⊕ decimal 1 6

unfoldable pub rounding_t_m : Float
rounding_t_m = decimal 15 5 ⊕ decimal 1 6

-- `moved` of `rounding_norm`: the sum over the parameters of a residual's derivative times the parameter's rounding
unfoldable pub moved : Float → Float → Float → Float → Float
moved x y z t = nought ⊕ abs x ⊗ rounding_x_m ⊕ abs y ⊗ rounding_x_m ⊕ abs z ⊗ rounding_x_m ⊕ abs t ⊗ rounding_t_m

-- the same of row k, of a Jacobian with the columns a to d
abbrev pub moved_at : List Float → List Float → List Float → List Float → ℕ → Float
moved_at a b c d k = moved (nth a k) (nth b k) (nth c k) (nth d k)

-- `rounding_norm`: the root of the sum of squares
abbrev pub rounding_norm : List Float → List Float → List Float → List Float → ℕ → Float
rounding_norm a b c d rows = root (dots (moved_at a b c d) (moved_at a b c d) rows)

-- `published_chi2_limit`
unfoldable pub published_chi2_limit : ℕ → Float → Float
published_chi2_limit n rounding = let reach = root (chi2_limit n) ⊕ rounding in reach ⊗ reach
