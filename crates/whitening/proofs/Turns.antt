-- What one more turn adds to a sum or a solve. Assumes nothing.
use mathlib.Core.Path.{◌≡◌, sym}
use mathlib.Core.List.{List, [], ◌∷◌}
use Prim.Native.Nat.{ℕ, ◌+◌}
use native.Mathlib.Numerals.{add-one}
use native.Mathlib.Omega.{arith}
use lib.ListN.{set}
use lib.Ieee.{Float}
use Rattle.binary64.specs.Steps.{◌⊕◌, ◌⊗◌, ◌⊘◌}
use Rattle.dense.specs.Entries.{nth, at, minus_dots}
use Rattle.dense.specs.Solve.{forward_to}
use Rattle.dense.proofs.Keeps.{forward-keeps}
use Rattle.whitening.specs.Whitened.{Rows}
use Rattle.whitening.specs.Normal.{plus_products, plus_multiple, normal_to}

-- row i of a forward solve, in place
pub forward-row : (l : List Float) (n : ℕ) (b y : List Float) (i : ℕ) (v : Float) → y ≡ forward_to l n b i → v
    ≡ minus_dots (at l n i) (nth y) i (nth y i) → set y i (v ⊘ at l n i i) ≡ forward_to l n b (i + 1)
unfolding forward_to
forward-row l n b y i v e h =
    let kept : nth b i ≡ nth y i = rw e (sym (forward-keeps l n b i i (omega arith))) in
    rw (add-one, ← e, h, kept)

-- row i of the normal equations
abbrev pub slopes : Rows → ℕ → List Float
slopes w i = nth w.a i ∷ nth w.b i ∷ nth w.c i ∷ nth w.d i ∷ []

pub normal-row : (w : Rows) (i : ℕ) (m g m₁ g₁ : List Float) (cost : Float) → record { information = m; gradient = g; cost = cost } ≡ normal_to w i
    → g₁ ≡ plus_multiple g (slopes w i) (nth w.r i) → m₁ ≡ plus_products m (slopes w i)
    → record { information = m₁; gradient = g₁; cost = cost ⊕ nth w.r i ⊗ nth w.r i } ≡ normal_to w (i + 1)
unfolding normal_to
normal-row w i m g m₁ g₁ cost e eg em = rw (add-one, ← e, eg, em)
