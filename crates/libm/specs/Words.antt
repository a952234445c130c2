-- What the functions of fdlibm share: the high word of a binary64 and its sign, by which they test their arguments, and
-- a `switch` of four cases. Definitions only.
use Rattle.std.specs.Prelude.{ℕ, ◌*◌, ◌/◌, ◌%◌, ◌^◌, Bool, cond, ◌==◌, nat_le, to_bits, Float}
use Rattle.std.specs.Float.{binary64}
use Rattle.std.specs.Float.Ieee.{neg}
use Rattle.binary64.specs.Steps.{#}

-- `__HI(x) & 0x7fffffff`: the high word of x without the sign, fdlibm's ix. For a finite x, `high x < h` says that |x|
-- is below `word h` (`by_high` in proofs/Sizes.antt). It is 0x7FF00000 at an infinity and above that at a not-a-number.
unfoldable pub high : Float → ℕ
high x = to_bits binary64 x / 2 ^ 32 % 2 ^ 31

-- `__HI(x) < 0`: the sign is set, as it is in -0
unfoldable pub negative : Float → Bool
negative x = nat_le (2 ^ 63) (to_bits binary64 x)

-- `(hx<0)? -z:z`: z with its sign turned where x's is set
unfoldable pub signed : Float → Float → Float
signed x z = cond (negative x) (neg z) z

-- `__HI(v) = h; __LO(v) = 0`: the value whose high word is h and whose low word is 0
abbrev pub word : ℕ → Float
word h = # (h * 2 ^ 32)

-- `switch (m) { case 0: return a; case 1: return b; case 2: return c; default: return d; }`
unfoldable pub switch : ℕ → Float → Float → Float → Float → Float
switch m a b c d = cond (m == 0) a (cond (m == 1) b (cond (m == 2) c d))
