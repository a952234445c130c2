-- A column of the factor reads the matrix on and below the diagonal, and its entries lie there: so what lies right of the
-- diagonal is neither read nor written. Assumes nothing.
use mathlib.Core.Path.{◌≡◌, refl, ◌∙◌}
use mathlib.Core.Bool.{Bool, true, false, cond}
use mathlib.Core.Logic.{◌≢◌}
use mathlib.Core.List.{List}
use Prim.Native.Nat.{ℕ, zero, suc, ◌+◌, ◌*◌, ◌-◌, ◌≤◌, ◌<◌}
use native.Mathlib.Omega.{arith}
use lib.Seq.{get_or-set_other}
use lib.Ieee.{Float, nan, lt}
use Rattle.binary64.specs.Steps.{◌⊘◌, nought}
use Rattle.binary64.specs.Root as roots
use Rattle.dense.specs.Entries.{at, put, minus_dots}
use Rattle.dense.specs.Factor.{Factor, found, refused, column_to, pivot, column, cholesky_to}
use Rattle.dense.specs.Lower.{array_of, LowerAlone, RightKept}
use Rattle.dense.proofs.Places.{same_row, same-column}

-- ---- what is read
module _ (a a' : List Float) (n : ℕ) (same : (i j : ℕ) → j ≤ i → i < n → at a n i j ≡ at a' n i j) where
  column-alone : (j : ℕ) (root : Float) (l : List Float) (m : ℕ) → j + 1 + m ≤ n → column_to a n j root l m ≡ column_to a' n j root l m
  unfolding column_to
  column-alone j root l zero h = refl
  column-alone j root l (suc m) h = rw (column-alone j root l m (omega arith), same (j + 1 + m) j (omega arith) (omega arith))

  one-alone : (j : ℕ) → j < n → (f : Factor) → column a n j f ≡ column a' n j f
  unfolding column
  one-alone j h (found l) =
      let r = roots.root (pivot a' n j l) in
      rw (same j j (omega arith) h, column-alone j r (put l n j j r) (n - (j + 1)) (omega arith))
  one-alone j h (refused l) = refl

  alone : (l : List Float) (j : ℕ) → j ≤ n → cholesky_to a n l j ≡ cholesky_to a' n l j
  unfolding cholesky_to
  alone l zero h = refl
  alone l (suc j) h = rw (alone l j (omega arith)) (one-alone j (omega arith) (cholesky_to a' n l j))

pub lower-alone : LowerAlone
lower-alone a a' n l same = alone a a' n same l n (omega arith)

-- ---- what is written
module _ (a : List Float) (n : ℕ) (i j : ℕ) (right : i < j) (inside : j < n) where
  elsewhere : (row c : ℕ) → c ≤ row → c < n → i * n + j ≢ row * n + c
  elsewhere row c h g e =
      let p : i ≡ row = same_row n i j row c inside g e in
      let q : j ≡ c = same-column n i j row c inside g e in
      omega arith

  kept : (l : List Float) (row c : ℕ) (v : Float) → c ≤ row → c < n → at (put l n row c v) n i j ≡ at l n i j
  kept l row c v h g = get_or-set_other l (row * n + c) (i * n + j) v nan (elsewhere row c h g)

  column-keeps : (c : ℕ) (root : Float) (l : List Float) (m : ℕ) → c < n → at (column_to a n c root l m) n i j ≡ at l n i j
  unfolding column_to
  column-keeps c root l zero h = refl
  column-keeps c root l (suc m) h =
      let g = column_to a n c root l m in
      let row = c + 1 + m in
      kept g row c (minus_dots (at g n row) (at g n c) c (at a n row c) ⊘ root) (omega arith) h ∙ column-keeps c root l m h

  either-keeps
      : (c : ℕ) (r : Float) (l : List Float) (b : Bool) → c < n
      → at (array_of (cond b (found (column_to a n c r (put l n c c r) (n - (c + 1)))) (refused l))) n i j ≡ at l n i j
  either-keeps c r l true h = column-keeps c r (put l n c c r) (n - (c + 1)) h ∙ kept l c c r (omega arith) h
  either-keeps c r l false h = refl

  one-keeps : (c : ℕ) → c < n → (f : Factor) → at (array_of (column a n c f)) n i j ≡ at (array_of f) n i j
  unfolding column
  one-keeps c h (found l) = either-keeps c (roots.root (pivot a n c l)) l (lt nought (pivot a n c l)) h
  one-keeps c h (refused l) = refl

  all_keep : (l : List Float) (c : ℕ) → c ≤ n → at (array_of (cholesky_to a n l c)) n i j ≡ at l n i j
  unfolding cholesky_to
  all_keep l zero h = refl
  all_keep l (suc c) h = one-keeps c (omega arith) (cholesky_to a n l c) ∙ all_keep l c (omega arith)

pub right_kept : RightKept
right_kept a n l i j right inside = all_keep a n i j right inside l n (omega arith)
