-- The cost of a fit is a value of binary64 with its sign clear, or no number: it is a sum of squares from plus zero. Assumes nothing.
use mathlib.Core.Path.{◌≡◌, sym, subst}
use mathlib.Core.Logic.{◌⊎◌, inl}
use mathlib.Core.List.{List}
use Prim.Native.Nat.{ℕ}
use lib.Dec.{T}
use lib.Ieee.{Float, nan, fits, of_bits}
use Rattle.binary64.specs.Steps.{nought}
use Rattle.binary64.specs.Meaning.{IsBinary64}
use Rattle.binary64.proofs.Clear.{clear}
use Rattle.whitening.specs.Whitened.{Chosen, Rows, whitened}
use Rattle.whitening.specs.Normal.{normal_to, evaluated}
use Rattle.whitening.proofs.Costs.{cost-is}
use Rattle.damped.specs.Damped.{candidate, levenberg_marquardt}
use Rattle.damped.proofs.Squares.{cost-clear, cost-fits}
use Rattle.damped.proofs.Kept.{fit-keeps}

abbrev pub Plain : Float → Type 0
Plain c = IsBinary64 c × (T (clear c) ⊎ (c ≡ nan))

rows-plain : (w : Rows) (n : ℕ) → Plain (normal_to w n).cost
rows-plain w n = subst Plain (sym (cost-is w n)) (cost-fits w.r n, cost-clear w.r n)

evaluated-plain : (C : Chosen) (p : List Float) → Plain (evaluated C p).cost
unfolding evaluated
evaluated-plain C p = rows-plain (whitened C p) (whitened C p).count

nought-plain : Plain nought
unfolding of_bits fits
nought-plain = (tt, inl tt)

pub fit-plain : (C : Chosen) (start : List Float) → Plain (levenberg_marquardt C start).cost
fit-plain C start =
    fit-keeps C (λ (p : List Float) (c : Float). Plain c) (λ (p x : List Float). evaluated-plain C (candidate p x)) nought-plain start
    (evaluated-plain C start)
