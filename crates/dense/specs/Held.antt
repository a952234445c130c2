-- How the code holds a factor. Nothing that must be believed cites it. Definitions only.
use Rattle.std.specs.Prelude.{Bool, true, false, List, Float}
use Rattle.dense.specs.Factor.{Factor, found, refused}

-- the verdict as a flag beside the array: `Some` is true, and `None` false
abbrev pub verdict : Bool → List Float → Factor
verdict true l = found l
verdict false l = refused l
