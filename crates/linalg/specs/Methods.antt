-- The struct that `Matrix::zeros` gives, whose array has room for a size of 32. Definitions only.
use Rattle.std.specs.Prelude.{List, replicate, Float}
use Rattle.binary64.specs.Steps.{nought}

-- the array of `Matrix::zeros`
abbrev pub zeros : List Float
zeros = replicate 1024 nought
