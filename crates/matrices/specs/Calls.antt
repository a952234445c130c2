-- The calls: the result of each, made from zeros as in the source, then its answer and what it leaves in `out`.
-- Definitions only.
use Rattle.std.specs.Prelude.{cond, List, ℕ, length, replicate, Float}
use Rattle.binary64.specs.Steps.{nought}
use Rattle.refusals.specs.Refusals.{singular, wrong_size}
use Rattle.dense.specs.Factor.{Factor, found, refused}
use Rattle.dense.specs.Factor as factors
use Rattle.dense.specs.Triangular.{blank}
use Rattle.dense.specs.Triangular as triangular
use Rattle.dense.specs.Sandwich as sandwiched
use Rattle.dense.specs.Rows as rows
use Rattle.matrices.specs.Matching.{squares, square_and_column, three_squares, square_and_rows, answer, output}

-- ---- `Matrix::sandwich`
abbrev pub sandwich : ℕ → List Float → List Float → List Float
sandwich n a inner = sandwiched.sandwich a n inner (blank n)

abbrev pub sandwich_answer : ℕ → List Float → List Float → List Float → ℕ
sandwich_answer n a inner out = answer (three_squares n (length a) (length inner) (length out))

abbrev pub sandwich_output : ℕ → List Float → List Float → List Float → List Float
sandwich_output n a inner out = output (three_squares n (length a) (length inner) (length out)) (sandwich n a inner) out

-- ---- `Cholesky::forward_rows`, whose R starts as a copy of Q
abbrev pub forward_rows : ℕ → ℕ → List Float → List Float → List Float
forward_rows n width l q = rows.forward_rows l n width q

abbrev pub forward_rows_answer : ℕ → ℕ → List Float → List Float → List Float → ℕ
forward_rows_answer n width l q out = answer (square_and_rows n width (length l) (length q) (length out))

abbrev pub forward_rows_output : ℕ → ℕ → List Float → List Float → List Float → List Float
forward_rows_output n width l q out =
    output (square_and_rows n width (length l) (length q) (length out)) (forward_rows n width l q) out

-- ---- `Cholesky::inverse_triangular`
abbrev pub inverse_triangular : ℕ → List Float → List Float
inverse_triangular n l = triangular.inverse_triangular l n (blank n)

abbrev pub inverse_triangular_answer : ℕ → List Float → List Float → ℕ
inverse_triangular_answer n l out = answer (squares n (length l) (length out))

abbrev pub inverse_triangular_output : ℕ → List Float → List Float → List Float
inverse_triangular_output n l out = output (squares n (length l) (length out)) (inverse_triangular n l) out

-- ---- `Cholesky::inverse_diagonal`
abbrev pub inverse_diagonal : ℕ → List Float → List Float
inverse_diagonal n l = triangular.inverse_diagonal l n (replicate n nought)

abbrev pub inverse_diagonal_answer : ℕ → List Float → List Float → ℕ
inverse_diagonal_answer n l out = answer (square_and_column n (length l) (length out))

abbrev pub inverse_diagonal_output : ℕ → List Float → List Float → List Float
inverse_diagonal_output n l out = output (square_and_column n (length l) (length out)) (inverse_diagonal n l) out

-- ---- `Matrix::cholesky`, in zeros: `Some` of the factor, or `None`
abbrev pub cholesky : ℕ → List Float → Factor
cholesky n a = factors.cholesky a n (blank n)

-- 0 for a factor, and document 01's 6 where a pivot is refused
abbrev pub factor_answer : Factor → ℕ
factor_answer (found l) = 0
factor_answer (refused l) = singular

-- the factor, or what was there
abbrev pub factor_output : Factor → List Float → List Float
factor_output (found l) out = l
factor_output (refused l) out = out

abbrev pub cholesky_answer : ℕ → List Float → List Float → ℕ
cholesky_answer n a out = cond (squares n (length a) (length out)) (factor_answer (cholesky n a)) wrong_size

abbrev pub cholesky_output : ℕ → List Float → List Float → List Float
cholesky_output n a out = output (squares n (length a) (length out)) (factor_output (cholesky n a) out) out
