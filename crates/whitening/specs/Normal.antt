-- The normal equations of whitened rows: `normal` of solve.rs. Definitions only.
use Rattle.std.specs.Prelude.{List, [], ◌∷◌, ◌++◌, ℕ, zero, suc, replicate, Float}
use Rattle.binary64.specs.Steps.{◌⊕◌, ◌⊗◌, nought}
use Rattle.dense.specs.Entries.{nth, at}
use Rattle.problem.specs.Problem.{four}
use Rattle.whitening.specs.declared.Equations.{Equations}
use Rattle.whitening.specs.Whitened.{Chosen, Rows, whitened}

-- `information.add(i, j, row[i] * row[j])` for each i and j, row by row
unfoldable pub plus_products : List Float → List Float → List Float
plus_products m row =
    let entry : ℕ → ℕ → Float = λ i j. at m 4 i j ⊕ nth row i ⊗ nth row j in
    four (entry 0) ++ four (entry 1) ++ four (entry 2) ++ four (entry 3)

-- `gradient[i] += row[i] * r` for each i
unfoldable pub plus_multiple : List Float → List Float → Float → List Float
plus_multiple v row value = four (λ i. nth v i ⊕ nth row i ⊗ value)

-- `for (r, row) in residuals.iter().zip(jacobian)`, after i turns
unfoldable pub normal_to : Rows → ℕ → Equations
normal_to w zero = record { information = replicate 16 nought; gradient = replicate 4 nought; cost = nought }
normal_to w (suc i) =
    let e = normal_to w i in
    let r = nth w.r i in
    let row = nth w.a i ∷ nth w.b i ∷ nth w.c i ∷ nth w.d i ∷ [] in
    record {
      information = plus_products e.information row;
      gradient = plus_multiple e.gradient row r;
      cost = e.cost ⊕ r ⊗ r;
    }

-- all rows
abbrev pub normal : Rows → Equations
normal w = normal_to w w.count

-- the normal equations at p
unfoldable pub evaluated : Chosen → List Float → Equations
evaluated C p = normal (whitened C p)
