-- The steps of binary64 that every definition of the port is made of: the four operators, constants by their bits or
-- digits, and three small functions. Definitions only.
use Rattle.std.specs.Prelude.{ℕ, ◌^◌, Bool, true, false, cond, Float}
use Rattle.std.specs.Float.{nan, inf, fin, binary64}
use Rattle.std.specs.Float.Ieee.{round, add, sub, mul, div, lt, of_bits}

infixl 6 ◌⊕◌ ◌⊖◌
infixl 7 ◌⊗◌ ◌⊘◌
-- a sum, a difference, a product and a quotient, each rounded once to the nearest binary64, ties to even (IEEE 754)
abbrev pub ◌⊕◌ : Float → Float → Float
x ⊕ y = add binary64 x y

abbrev pub ◌⊖◌ : Float → Float → Float
x ⊖ y = sub binary64 x y

abbrev pub ◌⊗◌ : Float → Float → Float
x ⊗ y = mul binary64 x y

abbrev pub ◌⊘◌ : Float → Float → Float
x ⊘ y = div binary64 x y

-- the value with these bits
abbrev pub # : ℕ → Float
# n = of_bits binary64 n

-- n / 10 ^ d, as Rust reads a decimal literal: the binary64 nearest to it
abbrev pub decimal : ℕ → ℕ → Float
decimal n d = round binary64 false n (10 ^ d)

-- 0, from which document 01 has every sum start
abbrev pub nought : Float
nought = # 0

-- 1
abbrev pub one : Float
one = # 0x3FF0000000000000

-- 0.5 and 2
abbrev pub half : Float
half = # 0x3FE0000000000000

abbrev pub two : Float
two = # 0x4000000000000000

-- Rust's `f64::abs`: the sign cleared
unfoldable pub abs : Float → Float
abs nan = nan
abs (inf s) = inf false
abs (fin s m e) = fin false m e

-- Document 01: "`max` gives its second argument unless the first is greater".
unfoldable pub max_of : Float → Float → Float
max_of a b = cond (lt b a) a b

-- Rust's `f64::is_finite`: neither an infinity nor a not-a-number
unfoldable pub is_finite : Float → Bool
is_finite nan = false
is_finite (inf s) = false
is_finite (fin s m e) = true
