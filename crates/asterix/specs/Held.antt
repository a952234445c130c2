-- The bytes of an item as the code writes and reads them. Nothing that must be believed cites it. Definitions only.
use Rattle.std.specs.Prelude.{cond, List, ℕ, ◌+◌, ◌/◌, ◌%◌, ◌^◌, suc, ◌-◌, ◌*◌, ltb, ℤ, pos, negsuc, set}

-- s with a number in its two bytes from byte k on, and in its four, the highest first
abbrev pub put_two : List ℕ → ℕ → ℕ → List ℕ
put_two s k x = set (set s k (x / 2 ^ 8 % 256)) (k + 1) (x % 256)

abbrev pub put_four : List ℕ → ℕ → ℕ → List ℕ
put_four s k x = put_two (put_two s k (x / 2 ^ 16)) (k + 2) x

-- two's complement where `half` is the sign's weight: `to_z w32` of 2 ^ 31, `to_z w16` of 2 ^ 15
abbrev pub complement : ℕ → ℕ → ℤ
complement half n = cond (ltb n half) (pos n) (negsuc (2 * half - suc n))
