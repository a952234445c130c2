-- Document 02, item 7: a fix record in the old form, 176 bytes, and in the archive's new one, 152. Definitions only.
use Rattle.std.specs.Prelude.{ℕ, ◌+◌, ◌*◌, List, ◌++◌, take, drop}
use Rattle.words.specs.Words.{u64_at}

-- the bytes of s from byte k on, so many of them
abbrev pub part : List ℕ → ℕ → ℕ → List ℕ
part s k count = take count (drop k s)

-- ---- the old form: document 01, "80-151: covariance, nine f64, rows in order"

-- where the entry in row i and column j, both from 0, begins
abbrev pub entry_at : ℕ → ℕ → ℕ
entry_at i j = 80 + 8 * (3 * i + j)

-- its bytes, and its bits
abbrev pub entry : List ℕ → ℕ → ℕ → List ℕ
entry s i j = part s (entry_at i j) 8

abbrev pub bits : List ℕ → ℕ → ℕ → ℕ
bits s i j = u64_at s (entry_at i j)

-- ---- the new form

-- "bytes 80 to 127 hold the entries on and right of the diagonal, by rows, and the last 24 bytes follow"
unfoldable pub new_form : List ℕ → List ℕ
new_form s =
    part s 0 80
    ++ entry s 0 0 ++ entry s 0 1 ++ entry s 0 2
    ++ entry s 1 1 ++ entry s 1 2
    ++ entry s 2 2
    ++ part s 152 24

-- the k-th, from 0, of the six entries of a record in the new form
abbrev pub held : List ℕ → ℕ → List ℕ
held a k = part a (80 + 8 * k) 8

-- the old form of a record in the new one: "The covariance is symmetric", so that left of the diagonal stand the
-- mirrored entries
unfoldable pub old_form : List ℕ → List ℕ
old_form a =
    part a 0 80
    ++ held a 0 ++ held a 1 ++ held a 2
    ++ held a 1 ++ held a 3 ++ held a 4
    ++ held a 2 ++ held a 4 ++ held a 5
    ++ part a 128 24
