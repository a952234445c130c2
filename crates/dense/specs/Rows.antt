-- `Cholesky::forward_rows` of linalg.rs, for every size n and every width: R with L R = Q, in the array that brings Q,
-- row by row. Definitions only.
use Rattle.std.specs.Prelude.{cond, List, ℕ, zero, suc, Float}
use Rattle.std.specs.Float.Ieee.{eq}
use Rattle.binary64.specs.Steps.{◌⊖◌, ◌⊗◌, ◌⊘◌, nought}
use Rattle.dense.specs.Entries.{at, put}

-- `for j in 0..width`, after j turns: row i less a factor times row k
unfoldable pub less_row_to : ℕ → ℕ → ℕ → Float → List Float → ℕ → List Float
less_row_to width i k factor r zero = r
less_row_to width i k factor r (suc j) =
    let g = less_row_to width i k factor r j in
    put g width i j (at g width i j ⊖ factor ⊗ at g width k j)

-- `for k in 0..i`, after k turns: row i less L i 0 times row 0, .., L i (k - 1) times row k - 1. "if factor == 0.0 {
-- continue; }": a factor equal to 0, of either sign, is passed over. An infinity or a not-a-number in its row does not
-- reach row i.
unfoldable pub less_rows_to : List Float → ℕ → ℕ → ℕ → List Float → ℕ → List Float
less_rows_to l n width i r zero = r
less_rows_to l n width i r (suc k) =
    let g = less_rows_to l n width i r k in
    cond (eq (at l n i k) nought) g (less_row_to width i k (at l n i k) g width)

-- `for value in &mut r[i * width..(i + 1) * width]`, after j turns: row i divided by a root
unfoldable pub over_to : ℕ → ℕ → Float → List Float → ℕ → List Float
over_to width i root r zero = r
over_to width i root r (suc j) =
    let g = over_to width i root r j in
    put g width i j (at g width i j ⊘ root)

-- `for i in 0..n`, after i turns
unfoldable pub forward_rows_to : List Float → ℕ → ℕ → List Float → ℕ → List Float
forward_rows_to l n width q zero = q
forward_rows_to l n width q (suc i) =
    over_to width i (at l n i i) (less_rows_to l n width i (forward_rows_to l n width q i) i) width

-- all n rows: what lies past them stays
abbrev pub forward_rows : List Float → ℕ → ℕ → List Float → List Float
forward_rows l n width q = forward_rows_to l n width q n
