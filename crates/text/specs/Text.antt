-- Text as bytes: ASCII and decimal digits. Definitions only.
use Rattle.std.specs.Prelude.{ℕ, zero, suc, ◌+◌, ◌/◌, ◌%◌, ◌≤◌, ◌≡◌, cond, List, [], ◌∷◌, ◌++◌, ltb, length, take}
use Prim.Native.Char.{code}
use Prim.Native.String.{String, [] as end, ◌∷◌ as ◌then◌}
use Rattle.io.specs.Digits.{hex_digit_ascii}
use Rattle.text.specs.declared.Text.{Text}

-- the bytes of a text
abbrev pub text_of : Text → List ℕ
text_of t = take t.n t.bytes

-- it has room for k bytes more
abbrev pub Room : Text → ℕ → Type 0
Room t k = (length t.bytes ≡ 512) × (t.n + k ≤ 512)

-- words, which are ASCII
abbrev pub ascii : String → List ℕ
ascii end = []
ascii (c then s) = code c ∷ ascii s

-- n in decimal digits, none of them a zero in front, where k of them are enough
unfoldable pub decimal_to : ℕ → ℕ → List ℕ
decimal_to zero n = []
decimal_to (suc k) n = cond (ltb n 10) (hex_digit_ascii n ∷ []) (decimal_to k (n / 10) ++ (hex_digit_ascii (n % 10) ∷ []))

-- a u64 has at most 20
abbrev pub decimal : ℕ → List ℕ
decimal n = decimal_to 20 n
