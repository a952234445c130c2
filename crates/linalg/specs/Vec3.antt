-- The `Vec3` functions of linalg.rs, on lists of three. Definitions only.
use Rattle.std.specs.Prelude.{List, [], ◌∷◌, ℕ, Float}
use Rattle.binary64.specs.Steps.{◌⊕◌, ◌⊖◌, ◌⊗◌}
use Rattle.binary64.specs.Root.{root}
use Rattle.dense.specs.Entries.{nth}

-- a vector by its components
abbrev pub three : (ℕ → Float) → List Float
three f = f 0 ∷ f 1 ∷ f 2 ∷ []

-- a - b
abbrev pub sub : List Float → List Float → List Float
sub a b = three (λ k. nth a k ⊖ nth b k)

-- a · b, from the left
abbrev pub dot : List Float → List Float → Float
dot a b = nth a 0 ⊗ nth b 0 ⊕ nth a 1 ⊗ nth b 1 ⊕ nth a 2 ⊗ nth b 2

-- the root of a · a
abbrev pub norm : List Float → Float
norm a = root (dot a a)

-- a times k
abbrev pub scale : List Float → Float → List Float
scale a k = three (λ i. nth a i ⊗ k)

-- a + b
abbrev pub add : List Float → List Float → List Float
add a b = three (λ k. nth a k ⊕ nth b k)
