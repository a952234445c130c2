-- What holds of the results for every size, every factor and every number: which are symmetric to the bit, that there
-- is one diagonal, and that nothing shows of what stood in a result's array before. Definitions and statements only:
-- proofs/Symmetry.antt proves them.
use Rattle.std.specs.Prelude.{◌≡◌, List, ℕ, ◌*◌, ◌≤◌, ◌<◌, length, Float}
use Rattle.dense.specs.Entries.{nth, at}
use Rattle.dense.specs.Inverse.{inverse}
use Rattle.dense.specs.Triangular.{inverse_triangular, inverse_diagonal}
use Rattle.dense.specs.Sandwich.{sandwich}

-- each two entries that mirror each other are the same value, to the bit
abbrev pub Symmetric : List Float → ℕ → Type 0
Symmetric m n = (i j : ℕ) → i < n → j < n → at m n i j ≡ at m n j i

-- linalg.rs, `Cholesky::inverse`: "Symmetrise exactly". Of each factor, and of any list in the place of one.
abbrev pub InverseSymmetric : Type 0
InverseSymmetric = (l : List Float) (n : ℕ) (m : List Float) → n * n ≤ length m → Symmetric (inverse l n m) n

-- document 02, item 11: "Both results that are symmetric by construction are so to the bit." The first: of each factor,
-- and of any list in the place of one.
abbrev pub InverseTriangularSymmetric : Type 0
InverseTriangularSymmetric =
    (l : List Float) (n : ℕ) (m : List Float) → n * n ≤ length m → Symmetric (inverse_triangular l n m) n

-- The second: of any two matrices, whether or not they are symmetric themselves.
abbrev pub SandwichSymmetric : Type 0
SandwichSymmetric =
    (a inner : List Float) (n : ℕ) (m : List Float) → n * n ≤ length m → Symmetric (sandwich a n inner m) n

-- "For each factor that `cholesky` gives, `inverse_diagonal` has the bits of the diagonal of `inverse_triangular`." Of
-- each factor, and of any list in the place of one.
abbrev pub OneDiagonal : Type 0
OneDiagonal =
    (l : List Float) (n : ℕ) (d m : List Float) → n ≤ length d → n * n ≤ length m
    → (i : ℕ) → i < n → nth (inverse_diagonal l n d) i ≡ at (inverse_triangular l n m) n i i

-- what stood in an array of the result's own length does not show in the result
abbrev pub Overwritten : (ℕ → List Float → List Float) → (ℕ → ℕ) → Type 0
Overwritten result size =
    (n : ℕ) (m m' : List Float) → length m ≡ size n → length m' ≡ size n → result n m ≡ result n m'

-- so it is with the three that are made in another array than their arguments'
abbrev pub ResultsOverwritten : Type 0
ResultsOverwritten =
    ((l : List Float) → Overwritten (inverse_triangular l) (λ n. n * n))
    × ((l : List Float) → Overwritten (inverse_diagonal l) (λ n. n))
    × ((a inner : List Float) → Overwritten (λ n. sandwich a n inner) (λ n. n * n))
