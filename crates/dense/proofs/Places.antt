-- Where the rows and the entries of a matrix of size n lie in its list. Assumes nothing.
use mathlib.Core.Path.{◌≡◌, sym, ap, ◌∙◌}
use Prim.Native.Nat.{ℕ, suc, ◌+◌, ◌*◌, ◌/◌, ◌%◌, ◌≤◌, ◌<◌}
use native.Mathlib.Nat.{mul-le-mul, mul-one, suc-mul, add-mul}
use native.Mathlib.Omega.{arith}
use lib.Arith.{digits_lt, digits_div, digits_mod}

-- a row starts in the matrix, or at its end
pub start : (row n : ℕ) → row ≤ n → row * n ≤ n * n
start row n h =
    let r : n ≤ n = omega arith in
    mul-le-mul h r

-- an entry lies in the matrix
pub place : (row column n : ℕ) → row < n → column < n → row * n + column < n * n
place row column n h k = omega (arith, start (suc row) n (omega arith), suc-mul row n)

-- an entry lies among rows of another width
pub place_in : (row column rows width : ℕ) → row < rows → column < width → row * width + column < rows * width
place_in row column rows width h k = digits_lt h k

-- a row of another width ends among the n
pub rows_in : (row n width : ℕ) → row < n → (row + 1) * width ≤ n * width
rows_in row n width h =
    let r : width ≤ width = omega arith in
    mul-le-mul (omega arith) r

-- k entries further along a row
pub along : (row column n k : ℕ) → row * n + column + k * 1 ≡ row * n + (column + k)
along row column n k = omega (arith, mul-one k)

-- k rows further down in a column
pub down : (row column n k : ℕ) → row * n + column + k * n ≡ (row + k) * n + column
down row column n k = omega (arith, add-mul row k n)

-- k rows down from the top of a column
pub top : (column n k : ℕ) → column + k * n ≡ k * n + column
top column n k = omega arith

-- a place is that of one row and one column alone
pub same_row : (n r c r' c' : ℕ) → c < n → c' < n → r * n + c ≡ r' * n + c' → r ≡ r'
same_row n r c r' c' h h' e = sym (digits_div r h) ∙ ap (λ (p : ℕ). p / n) e ∙ digits_div r' h'

pub same-column : (n r c r' c' : ℕ) → c < n → c' < n → r * n + c ≡ r' * n + c' → c ≡ c'
same-column n r c r' c' h h' e = sym (digits_mod r h) ∙ ap (λ (p : ℕ). p % n) e ∙ digits_mod r' h'

-- rows and columns up to 32 have room in 1024 entries
pub few : (rows columns : ℕ) → rows ≤ 32 → columns ≤ 32 → rows * columns ≤ 1024
few rows columns h g = mul-le-mul h g

-- and so has a size up to 32
pub room : (n : ℕ) → n ≤ 32 → n * n ≤ 1024
room n h = few n n h h

-- and a size up to 8 in 64
pub room-in-64 : (n : ℕ) → n ≤ 8 → n * n ≤ 64
room-in-64 n h = mul-le-mul h h
