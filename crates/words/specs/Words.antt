-- Numbers in a list of bytes. Document 01: "All files are records of one fixed size without a header, little-endian."
-- Definitions only.
use Rattle.std.specs.Prelude.{ℕ, zero, suc, ◌+◌, ◌*◌, ◌/◌, ◌%◌, List, get_or, set, ℤ, Float}
use Rattle.std.specs.Float.{binary64}
use Rattle.std.specs.Float.Ieee.{to_bits}
use Rattle.std.specs.Int.{w32, w64}
use Rattle.std.proofs.Common.{to_z, of_z}
use Rattle.binary64.specs.Steps.{#}

-- the number in the w bytes of s from byte k on, the lowest byte first
unfoldable pub word_at : ℕ → List ℕ → ℕ → ℕ
word_at zero s k = 0
word_at (suc w) s k = get_or s k 0 + 256 * word_at w s (k + 1)

-- s with the number x in its w bytes from byte k on
unfoldable pub put_word : ℕ → List ℕ → ℕ → ℕ → List ℕ
put_word zero s k x = s
put_word (suc w) s k x = put_word w (set s k (x % 256)) (k + 1) (x / 256)

unfoldable pub u16_at : List ℕ → ℕ → ℕ
unfolding word_at
u16_at s k = word_at 2 s k

unfoldable pub u32_at : List ℕ → ℕ → ℕ
unfolding word_at
u32_at s k = word_at 4 s k

unfoldable pub u64_at : List ℕ → ℕ → ℕ
unfolding word_at
u64_at s k = word_at 8 s k

-- two's complement
unfoldable pub i32_at : List ℕ → ℕ → ℤ
unfolding u32_at
i32_at s k = to_z w32 (u32_at s k)

-- two's complement
unfoldable pub i64_at : List ℕ → ℕ → ℤ
unfolding u64_at
i64_at s k = to_z w64 (u64_at s k)

-- Document 01: "f64" is a binary64 by its bits. "All not-a-numbers count as one value, their sign and payload aside."
unfoldable pub f64_at : List ℕ → ℕ → Float
unfolding u64_at
f64_at s k = # (u64_at s k)

unfoldable pub put_u16 : List ℕ → ℕ → ℕ → List ℕ
unfolding put_word
put_u16 s k x = put_word 2 s k x

unfoldable pub put_u32 : List ℕ → ℕ → ℕ → List ℕ
unfolding put_word
put_u32 s k x = put_word 4 s k x

unfoldable pub put_u64 : List ℕ → ℕ → ℕ → List ℕ
unfolding put_word
put_u64 s k x = put_word 8 s k x

-- two's complement
unfoldable pub put_i64 : List ℕ → ℕ → ℤ → List ℕ
unfolding put_u64
put_i64 s k x = put_u64 s k (of_z w64 x)

-- a not-a-number as 7FF8000000000000
unfoldable pub put_f64 : List ℕ → ℕ → Float → List ℕ
unfolding put_u64
put_f64 s k x = put_u64 s k (to_bits binary64 x)
