-- Three stores behind each other, and four: what is read there, and what before them. Assumes nothing.
use Rattle.std.proofs.Common.{◌≡◌, ℕ, ◌+◌, ◌<◌, List, [], ◌∷◌, ◌++◌, length, set, ap, ◌∙◌, arith, length-set, get_or-set_other, get_or-set_same}
use lib.Ieee.{Float, nan}
use Rattle.dense.specs.Entries.{nth}

module _ (a : List Float) (i : ℕ) (x y z : Float) where
  abbrev one : List Float
  one = set a i x

  abbrev two : List Float
  two = set one (i + 1) y

  abbrev three : List Float
  three = set two (i + 2) z

  before : (j : ℕ) → j < i → nth three j ≡ nth a j
  before j h =
      get_or-set_other two (i + 2) j z nan (λ e. omega arith) ∙ get_or-set_other one (i + 1) j y nan (λ e. omega arith)
      ∙ get_or-set_other a i j x nan (λ e. omega arith)

  pub three-kept : (j : ℕ) → j + 2 < i → nth three j ∷ nth three (j + 1) ∷ nth three (j + 2) ∷ [] ≡ nth a j ∷ nth a (j + 1) ∷ nth a (j + 2) ∷ []
  three-kept j h = rw (before j (omega arith), before (j + 1) (omega arith), before (j + 2) (omega arith))

  pub three-read : i + 2 < length a → nth three i ∷ nth three (i + 1) ∷ nth three (i + 2) ∷ [] ≡ x ∷ y ∷ z ∷ []
  three-read h =
      rw (
        get_or-set_other two (i + 2) i z nan (λ e. omega arith),
        get_or-set_other one (i + 1) i y nan (λ e. omega arith),
        get_or-set_same a i x nan (omega arith),
        get_or-set_other two (i + 2) (i + 1) z nan (λ e. omega arith),
        get_or-set_same one (i + 1) y nan (simp length-set (omega arith)),
        get_or-set_same two (i + 2) z nan (simp length-set (omega arith)),
      )

  module _ (w : Float) where
    abbrev all : List Float
    all = set three (i + 3) w

    below : (j : ℕ) → j < i + 3 → nth all j ≡ nth three j
    below j h = get_or-set_other three (i + 3) j w nan (λ e. omega arith)

    kept : (j : ℕ) → j < i → nth all j ≡ nth a j
    kept j h = below j (omega arith) ∙ before j h

    pub four-kept : (j : ℕ) → j + 3 < i → nth all j ∷ nth all (j + 1) ∷ nth all (j + 2) ∷ nth all (j + 3) ∷ []
        ≡ nth a j ∷ nth a (j + 1) ∷ nth a (j + 2) ∷ nth a (j + 3) ∷ []
    four-kept j h = rw (kept j (omega arith), kept (j + 1) (omega arith), kept (j + 2) (omega arith), kept (j + 3) (omega arith))

    pub four-read : i + 3 < length a → nth all i ∷ nth all (i + 1) ∷ nth all (i + 2) ∷ nth all (i + 3) ∷ [] ≡ x ∷ y ∷ z ∷ w ∷ []
    four-read h =
        rw (
          below i (omega arith),
          below (i + 1) (omega arith),
          below (i + 2) (omega arith),
          get_or-set_same three (i + 3) w nan (simp length-set (omega arith)),
        )
        (ap (λ (l : List Float). l ++ (w ∷ [])) (three-read (omega arith)))
