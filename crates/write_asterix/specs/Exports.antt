-- What the program writes for a record. Definitions only.
use Rattle.std.specs.Prelude.{ℕ, List, replicate, Result, Ok, Err}
use Rattle.wire.specs.declared.Wire.{Wire}
use Rattle.refusals.specs.declared.Refusal.{Refusal}
use Rattle.refusals.specs.Refusals.{number_of}
use Rattle.wire.specs.Wire.{to_wire}
use Rattle.asterix.specs.Items.{to_answer, to_output}
use Rattle.write_asterix.specs.declared.Items.{Items}

-- the wire's numbers: the number that they get and the ten bytes, over zeros
abbrev pub items_of_wire : Wire → Items
items_of_wire w = record { refusal = to_answer w (replicate 10 0); bytes = to_output w (replicate 10 0) }

-- a record that the wire does not take has its number and zeros
abbrev pub items_of_written : Result Wire Refusal → Items
items_of_written (Ok w) = items_of_wire w
items_of_written (Err why) = record { refusal = number_of why; bytes = replicate 10 0 }

-- the bytes of a record: its items are written where the number is 0, and nothing otherwise
abbrev pub items_of : List ℕ → Items
items_of s = items_of_written (to_wire s)
