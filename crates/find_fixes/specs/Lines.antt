-- What the program prints: its lines, as bytes. Definitions only.
use Rattle.std.specs.Prelude.{ℕ, ◌/◌, ◌%◌, cond, List, ◌++◌, Float}
use Rattle.std.specs.Float.Ieee.{lt, neg, to_unsigned}
use Rattle.binary64.specs.Steps.{◌⊕◌, ◌⊗◌, #, one, half}
use Rattle.near.specs.declared.Held.{Held}
use Rattle.text.specs.Text.{ascii, decimal}

-- n / 1000 with three digits after the point
unfoldable pub thousandths : ℕ → List ℕ
thousandths n =
    decimal (n / 1000) ++ ascii "." ++ decimal (n / 100 % 10) ++ decimal (n / 10 % 10) ++ decimal (n % 10)

-- metres in millimetres, 1000 to a metre, and a half, so that what is before the point is nearest
abbrev pub millimetres : Float → Float
millimetres d = d ⊗ # 0x408F400000000000 ⊕ half

abbrev pub far : List ℕ
far = ascii "over 10^16"

-- so many millimetres, where a u64 holds them: they are below 2^64
unfoldable pub whole : Float → List ℕ
whole mm = cond (lt mm (# 0x43F0000000000000)) (thousandths (to_unsigned 64 mm)) far

-- metres to the nearest millimetre
unfoldable pub metres : Float → List ℕ
metres d = cond (lt (neg one) (millimetres d)) (whole (millimetres d)) far

-- the line of a fix
unfoldable pub fix_line : ℕ → Float → List ℕ
fix_line place d = ascii "place " ++ decimal place ++ ascii ", " ++ metres d ++ ascii " m away\n"

-- the first line
unfoldable pub nearest_line : Held → List ℕ
nearest_line h =
    cond h.found (ascii "nearest: " ++ fix_line h.place h.distance)
    (ascii "nearest: none, the file has no fix\n")
