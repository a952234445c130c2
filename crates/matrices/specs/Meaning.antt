-- What the calls come to, in words that know nothing of how a test or a sum is made. Statements only:
-- proofs/Meaning.antt proves them. That both symmetric results are so to the bit, and that there is one diagonal, is
-- said for every size in dense, specs/Symmetry.antt; what a factor reads and writes in dense, specs/Lower.antt.
use Rattle.std.specs.Prelude.{◌≡◌, ◌⊎◌, List, ℕ, ◌*◌, ◌≤◌, ◌<◌, length, Float}
use Rattle.binary64.specs.Steps.{nought}
use Rattle.refusals.specs.Refusals.{singular, wrong_size}
use Rattle.dense.specs.Entries.{at}
use Rattle.dense.specs.Factor.{found, refused}
use Rattle.matrices.specs.Calls as calls

-- "Turned away: 21 size or width over 32, or a buffer length not matching them, .. all lent memory unchanged." A call
-- whose sizes match answers 0 and leaves the result; any other, and no other, answers 21 and leaves `out` as it was.
abbrev pub Answered : Type 0 → ℕ → List Float → List Float → List Float → Type 0
Answered matching answer left result out =
    (matching × (answer ≡ 0) × (left ≡ result)) ⊎ ((matching → ⊥) × (answer ≡ wrong_size) × (left ≡ out))

abbrev pub SandwichAnswered : Type 0
SandwichAnswered =
    (n : ℕ) (a inner out : List Float)
    → Answered ((n ≤ 32) × (length a ≡ n * n) × (length inner ≡ n * n) × (length out ≡ n * n))
    (calls.sandwich_answer n a inner out) (calls.sandwich_output n a inner out) (calls.sandwich n a inner) out

abbrev pub ForwardRowsAnswered : Type 0
ForwardRowsAnswered =
    (n width : ℕ) (l q out : List Float)
    → Answered ((n ≤ 32) × (width ≤ 32) × (length l ≡ n * n) × (length q ≡ n * width) × (length out ≡ n * width))
    (calls.forward_rows_answer n width l q out)
    (calls.forward_rows_output n width l q out)
    (calls.forward_rows n width l q)
    out

abbrev pub InverseTriangularAnswered : Type 0
InverseTriangularAnswered =
    (n : ℕ) (l out : List Float)
    → Answered ((n ≤ 32) × (length l ≡ n * n) × (length out ≡ n * n))
    (calls.inverse_triangular_answer n l out) (calls.inverse_triangular_output n l out) (calls.inverse_triangular n l) out

abbrev pub InverseDiagonalAnswered : Type 0
InverseDiagonalAnswered =
    (n : ℕ) (l out : List Float)
    → Answered ((n ≤ 32) × (length l ≡ n * n) × (length out ≡ n))
    (calls.inverse_diagonal_answer n l out) (calls.inverse_diagonal_output n l out) (calls.inverse_diagonal n l) out

-- the factor, or 6 where there is none, or 21: `out` changes in the first case alone, and right of the diagonal there
-- are then zeros
abbrev pub CholeskyAnswered : Type 0
CholeskyAnswered =
    (n : ℕ) (a out : List Float)
    → let matching = (n ≤ 32) × (length a ≡ n * n) × (length out ≡ n * n) in
    let answer = calls.cholesky_answer n a out in
    let left = calls.cholesky_output n a out in
    (matching × (answer ≡ 0) × (calls.cholesky n a ≡ found left) × ((i j : ℕ) → i < j → j < n → at left n i j ≡ nought))
    ⊎ (matching × (answer ≡ singular) × ((l : List Float) × (calls.cholesky n a ≡ refused l)) × (left ≡ out))
    ⊎ ((matching → ⊥) × (answer ≡ wrong_size) × (left ≡ out))
