-- How the code holds a matrix. Nothing that must be believed cites it. Definitions only.
use Rattle.std.specs.Prelude.{List, ℕ, Float}
use Rattle.linalg.specs.declared.matrix.Matrix.{Matrix}

-- a `Matrix` of these fields
abbrev pub matrix : ℕ → List Float → Matrix
matrix n m = record { n = n; «data» = m }
