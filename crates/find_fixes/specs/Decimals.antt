-- Numbers as people write them: digits with a point among them or none, a minus in front or none. Definitions only.
use Rattle.std.specs.Prelude.{ℕ, ◌+◌, ◌-◌, ◌*◌, ◌^◌, Bool, true, false, Option, Some, None, cond, List, [], ◌∷◌, length}
use Rattle.std.specs.Prelude.{drop, slice_index, pos, ◌==◌, nat_le, nat_lt, Float}
use Rattle.std.specs.Float.{binary64}
use Rattle.std.specs.Float.Ieee.{neg, of_int}
use Rattle.binary64.specs.Steps.{◌⊘◌}
use Rattle.find_fixes.specs.declared.decimals.Digits.{Digits}

-- before the first digit
abbrev pub begun : Digits
begun = record { some = false; point = false; whole = 0; scale = 1 }

-- the digits d and a point: there is one at the most
abbrev pub onward : Digits → Digits
onward d = record { some = d.some; point = true; whole = d.whole; scale = d.scale }

unfoldable pub pointed : Digits → Option Digits
pointed d = cond d.point None (Some (onward d))

-- and a digit
abbrev pub longer : Digits → ℕ → Digits
longer d digit = record {
  some = true;
  point = d.point;
  whole = 10 * d.whole + digit;
  scale = cond d.point (10 * d.scale) d.scale;
}

-- with as much there is no room for a digit more
abbrev pub most : ℕ
most = 10 ^ 14

-- the digits d and a byte more: the point is 46, and 48 to 57 are the digits
unfoldable pub next : Digits → ℕ → Option Digits
next d b =
    cond (b == 46) (pointed d)
    (cond (nat_lt b 48) None
    (cond (nat_lt 57 b) None
    (cond (nat_le most d.whole) None (cond (nat_le most d.scale) None (Some (longer d (b - 48)))))))

-- and more bytes, where those before them are good
abbrev pub then_digits : (Digits → Option Digits) → Option Digits → Option Digits
then_digits more None = None
then_digits more (Some d) = more d

unfoldable pub digits_of : Digits → List ℕ → Option Digits
digits_of d [] = Some d
digits_of d (b ∷ more) = then_digits (λ n. digits_of n more) (next d b)

-- the number that they are, if there are any: their whole number over 10 to the digits after the point, by one division
abbrev pub quotient : Digits → Float
quotient d = of_int binary64 (pos d.whole) ⊘ of_int binary64 (pos d.scale)

unfoldable pub value_of : Digits → Bool → Option Float
value_of d minus = cond d.some (Some (cond minus (neg (quotient d)) (quotient d))) None

abbrev pub value_in : Option Digits → Bool → Option Float
value_in None minus = None
value_in (Some d) minus = value_of d minus

-- the number that a text is: 45 is the minus
unfoldable pub number_of : List ℕ → Option Float
number_of s =
    cond (length s == 0) None
    (cond (slice_index s 0 == 45) (value_in (digits_of begun (drop 1 s)) true) (value_in (digits_of begun s) false))
