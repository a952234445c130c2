-- The inputs of a frame as the code asks for them. Nothing that must be believed cites it. Definitions only.
use Rattle.std.specs.Prelude.{Bool, not, ℕ, eqb}
use Rattle.entry.specs.Cut.{present_bits}
use Rattle.stream.specs.Frames.{absent}
use Rattle.stream.specs.declared.Head.{Head}

-- an input is there where its length is not the mark of an absent one
abbrev pub there : ℕ → Bool
there mark = not (eqb mark absent)

-- the bits of the inputs that are there, as `lent` reads them
abbrev pub present_of : Head → ℕ
present_of h = present_bits (there h.clock) (there h.altitude) (there h.reference)
