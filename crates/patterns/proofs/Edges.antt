-- The counts that document 02 states, each computed. Assumes nothing.
use mathlib.Core.Path.{refl}
use Rattle.patterns.specs.Patterns.{table}
use Rattle.patterns.specs.Meaning.{SmallTables}

pub small-tables : SmallTables
unfolding table
small-tables = (refl, refl, refl, refl)
