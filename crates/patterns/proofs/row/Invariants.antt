-- `patterns::row` meets its contract. The invariant: the row has the bits of those below b (`mask_of`). Assumes nothing.
use mathlib.Core.Path.{◌≡◌}
use Rattle.sets.specs.Mask.{mask_of}
use Rattle.patterns.specs.Patterns.{clash}
use Rattle.patterns.proofs.row.Given as goal

abbrev pub invariant-loop-b : goal.invariant-loop-b
invariant-loop-b l = l.row ≡ mask_of (clash l.pattern l.a) l.b
