-- `count_patterns::print_table` gives each line its number of patterns: by computation.
use mathlib.Core.Path.{refl}
use native.Mathlib.Omega.{arith}
use Rattle.patterns.specs.Patterns.{pairs}
use Rattle.count_patterns.proofs.print_table.Goals as goal

pub line-requires : goal.line-requires
unfolding pairs
line-requires g c = (omega arith, refl)

pub line-requires-2 : goal.line-requires-2
unfolding pairs
line-requires-2 g c = (omega arith, refl)

pub line-requires-3 : goal.line-requires-3
unfolding pairs
line-requires-3 g c = (omega arith, refl)

pub line-requires-4 : goal.line-requires-4
unfolding pairs
line-requires-4 g c = (omega arith, refl)

pub line-requires-5 : goal.line-requires-5
unfolding pairs
line-requires-5 g c = (omega arith, refl)

pub line-requires-6 : goal.line-requires-6
unfolding pairs
line-requires-6 g c = (omega arith, refl)

pub line-requires-7 : goal.line-requires-7
unfolding pairs
line-requires-7 g c = (omega arith, refl)
