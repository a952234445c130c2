-- Ranges by the roots of their squares, and standard deviations by those of variances. Assumes nothing.
use mathlib.Core.Path.{◌≡◌, refl, ap, ap₂, ◌∙◌}
use mathlib.Core.Logic.{inl, inr}
use mathlib.Core.List.{List}
use Prim.Native.Nat.{ℕ, zero, suc, ◌+◌, ◌≤◌, ◌<◌}
use native.Mathlib.Nat.{eq-or-lt_of_le}
use native.Mathlib.Omega.{arith}
use lib.ListN.{length, set}
use lib.Seq.{get_or-set_same, get_or-set_other}
use lib.Ieee.{Float, nan}
use Rattle.binary64.specs.Root.{root}
use Rattle.binary64.specs.Held.{roots_to}
use Rattle.dense.specs.Entries.{nth}
use Rattle.whitening.specs.Whitened.{fill_to}

-- the first k of d are squares of what f gives
abbrev pub Squared : List Float → (ℕ → Float) → ℕ → Type 0
Squared d f k = (j : ℕ) → j < k → root (nth d j) ≡ f j

pub one_more
    : (d : List Float) (f : ℕ → Float) (i : ℕ) (v : Float) → i < length d → Squared d f i → root v ≡ f i
    → Squared (set d i v) f (i + 1)
one_more d f i v l before e j h =
    let m : j ≤ i = omega arith in
    elim (eq-or-lt_of_le m) [
      | inl same ↦ rw same (ap root (get_or-set_same d i v nan l) ∙ e)
      | inr g ↦ ap root (get_or-set_other d i j v nan (λ same. omega arith)) ∙ before j g
    ]

pub roots-fill : (d out : List Float) (f : ℕ → Float) (k : ℕ) → Squared d f k → roots_to d out k ≡ fill_to out f k
unfolding roots_to fill_to
roots-fill d out f zero h = refl
roots-fill d out f (suc k) h =
    ap₂ (λ (y : List Float) (v : Float). set y k v) (roots-fill d out f k (λ j l. h j (omega arith))) (h k (omega arith))
