-- The table that is printed: its lines, as bytes. Definitions only.
use Rattle.std.specs.Prelude.{ℕ, ◌+◌, ◌*◌, ◌/◌, ◌%◌, ◌^◌, cond, List, ◌++◌, ltb, get_or}
use Rattle.patterns.specs.Patterns.{pairs, leaving, table}
use Rattle.text.specs.Text.{ascii, decimal}

-- the spaces before a number in a column of eight; none is above 2^15, which has five digits
unfoldable pub spaces : ℕ → List ℕ
spaces x =
    cond (ltb x 10) (ascii "       ")
    (cond (ltb x 100) (ascii "      ")
    (cond (ltb x 1000) (ascii "     ") (cond (ltb x 10000) (ascii "    ") (ascii "   "))))

unfoldable pub column : ℕ → List ℕ
column x = spaces x ++ decimal x

-- a column for each count
unfoldable pub columns : List ℕ → List ℕ
columns counts =
    column (get_or counts 0 0) ++ column (get_or counts 1 0) ++ column (get_or counts 2 0) ++ column (get_or counts 3 0)
    ++ column (get_or counts 4 0) ++ column (get_or counts 5 0) ++ column (get_or counts 6 0)

-- of the patterns of n receptions, how many in a thousand leave at least four, a half up
unfoldable pub tenths : ℕ → ℕ
tenths n = ((leaving n 4 + leaving n 5 + leaving n 6) * 1000 + 2 ^ pairs n / 2) / 2 ^ pairs n

-- as a percentage with one digit after the point
unfoldable pub share : ℕ → List ℕ
share n = column (tenths n / 10) ++ ascii "." ++ decimal (tenths n % 10) ++ ascii " %\n"

-- the line of n receptions
unfoldable pub line_of : ℕ → List ℕ
line_of n =
    ascii "  " ++ column n ++ ascii "  " ++ column (2 ^ pairs n) ++ columns (table n) ++ ascii "  " ++ share n
