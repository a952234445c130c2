-- What the code holds, and nothing that must be believed cites: the roots of several numbers in one array, and what the
-- inner functions of the root promise each other. Definitions only.
use Rattle.std.specs.Prelude.{List, ℕ, zero, suc, ◌+◌, ◌*◌, ◌≤◌, ◌<◌, get_or, set, Float}
use Rattle.std.specs.Float.{nan}
use Rattle.binary64.specs.Root.{root}

-- the array out with the roots of d 0, .., d (k - 1) in its first k places
unfoldable pub roots_to : List Float → List Float → ℕ → List Float
roots_to d out zero = out
roots_to d out (suc k) = set (roots_to d out k) k (root (get_or d k nan))

-- what the inner functions of src/square_root.rt promise each other: r is the whole number nearest to the root of w, (r
-- - 1/2) ^ 2 < w < (r + 1/2) ^ 2, multiplied out over whole numbers
abbrev pub Nearest : ℕ → ℕ → Type 0
Nearest w r = (r * r < w + r) × (w ≤ r * r + r)
