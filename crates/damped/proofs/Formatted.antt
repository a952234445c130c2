-- The parameters of a fit are values of binary64 where those of its start are: a step adds to them. Assumes nothing.
use mathlib.Core.List.{List}
use lib.ListN.{replicate}
use lib.Ieee.{Float, binary64, fits, of_bits}
use lib.Ieee.Fits.{add-fits}
use Rattle.binary64.specs.Steps.{nought}
use Rattle.whitening.specs.Whitened.{Chosen}
use Rattle.whitening.proofs.Formatted.{Formatted, formatted}
use Rattle.damped.specs.Damped.{candidate, levenberg_marquardt}
use Rattle.damped.proofs.Kept.{fit-keeps}

pub zeros-formatted : Formatted (replicate 4 nought)
unfolding of_bits fits
zeros-formatted = formatted (replicate 4 nought) tt tt tt tt

candidate-formatted : (p x : List Float) → Formatted (candidate p x)
unfolding candidate
candidate-formatted p x = formatted (candidate p x) (add-fits binary64 _ _) (add-fits binary64 _ _) (add-fits binary64 _ _) (add-fits binary64 _ _)

pub fit-formatted : (C : Chosen) (start : List Float) → Formatted start → Formatted (levenberg_marquardt C start).params
fit-formatted C start h = fit-keeps C (λ (p : List Float) (c : Float). Formatted p) candidate-formatted zeros-formatted start h
