-- A copy, entry by entry. Assumes nothing.
use mathlib.Core.Path.{◌≡◌, sym, ap, ◌∙◌}
use mathlib.Core.List.{List, [], ◌∷◌, ◌++◌}
use Prim.Native.Nat.{ℕ, suc, ◌<◌}
use native.Mathlib.Omega.{arith}
use lib.ListN.{length, take, set}
use lib.Seq.{take-suc, take-suc-set, take_all}
use lib.Ieee.{Float, nan}
use Rattle.dense.specs.Entries.{nth}

-- one entry more
pub copied
    : (q out : List Float) (k : ℕ) → k < length out → k < length q → take k out ≡ take k q
    → take (suc k) (set out k (nth q k)) ≡ take (suc k) q
copied q out k h g e = take-suc-set out k (nth q k) h ∙ ap (λ (z : List Float). z ++ (nth q k ∷ [])) e ∙ sym (take-suc q k nan g)

-- all of them
pub whole : (q out : List Float) (k : ℕ) → length out ≡ length q → k ≡ length q → take k out ≡ take k q → out ≡ q
whole q out k h g e = sym (take_all k out (omega arith)) ∙ e ∙ take_all k q (omega arith)
