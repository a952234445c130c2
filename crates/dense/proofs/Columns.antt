-- One column more of a factor: it is found where its pivot is above 0, and refused for good where it is not. Assumes nothing.
use mathlib.Core.Path.{◌≡◌}
use mathlib.Core.Bool.{true, false}
use mathlib.Core.List.{List}
use Prim.Native.Nat.{ℕ, zero, suc, ◌+◌, ◌-◌, ◌≤◌}
use native.Mathlib.Nat.{add-zero, add-suc}
use native.Mathlib.Omega.{arith}
use lib.Ieee.{Float, lt}
use Rattle.binary64.specs.Steps.{nought}
use Rattle.binary64.specs.Root.{root}
use Rattle.dense.specs.Entries.{put}
use Rattle.dense.specs.Factor.{found, refused, column_to, pivot, column, cholesky_to}

module _ (a : List Float) (n : ℕ) (z : List Float) where
  module _ (j : ℕ) (l : List Float) (e : cholesky_to a n z j ≡ found l) where
    pub next : lt nought (pivot a n j l) ≡ true
        → cholesky_to a n z (suc j) ≡ found (column_to a n j (root (pivot a n j l)) (put l n j j (root (pivot a n j l))) (n - (j + 1)))
    unfolding cholesky_to column
    next h = rw (e, h)

    stop : lt nought (pivot a n j l) ≡ false → cholesky_to a n z (suc j) ≡ refused l
    unfolding cholesky_to column
    stop h = rw (e, h)

  stays : (l : List Float) (j d : ℕ) → cholesky_to a n z j ≡ refused l → cholesky_to a n z (j + d) ≡ refused l
  unfolding cholesky_to column
  stays l j zero e = rw add-zero e
  stays l j (suc d) e = rw (add-suc, stays l j d e)

  pub stopped : (m j : ℕ) (l : List Float) → suc j ≤ m → cholesky_to a n z j ≡ found l → lt nought (pivot a n j l) ≡ false
      → cholesky_to a n z m ≡ refused l
  stopped m j l h e g =
      let k : suc j + (m - suc j) ≡ m = omega arith in
      rw k at (stays l (suc j) (m - suc j) (stop j l e g))
