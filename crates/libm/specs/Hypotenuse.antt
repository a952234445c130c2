-- The length of (x, y): e_hypot.c of fdlibm 5.3. Definitions only.
use Rattle.std.specs.Prelude.{ℕ, ◌+◌, ◌-◌, false, cond, nat_le, nat_lt, Float}
use Rattle.std.specs.Float.{inf}
use Rattle.std.specs.Float.Ieee.{neg, lt, eq}
use Rattle.binary64.specs.Steps.{◌⊕◌, ◌⊖◌, ◌⊗◌, #, nought, abs}
use Rattle.binary64.specs.Root.{root}
use Rattle.libm.specs.Words.{high, word}

-- "Inf or NaN": `w = a+b`, or a where a is the infinity, or b where b is
unfoldable pub inf_or_nan : Float → Float → Float
inf_or_nan a b = cond (eq b (inf false)) b (cond (eq a (inf false)) a (a ⊕ b))

-- "medium size a and b", where ha and hb are what e_hypot.c has for their high words. Its sqrt is IEEE 754's.
unfoldable pub medium : Float → Float → ℕ → ℕ → Float
medium a b ha hb =
    let w = a ⊖ b in
    cond (lt b w)
    (let t1 = word ha in
    let t2 = a ⊖ t1 in
    root (t1 ⊗ t1 ⊖ (b ⊗ neg b ⊖ t2 ⊗ (a ⊕ t1))))
    (let y1 = word hb in
    let y2 = b ⊖ y1 in
    let t1 = word (ha + 0x00100000) in
    let t2 = (a ⊕ a) ⊖ t1 in
    root (t1 ⊗ y1 ⊖ (w ⊗ neg w ⊖ (t1 ⊗ y2 ⊕ t2 ⊗ b))))

-- a and b without their signs, and their high words, of which ha is not the lesser. Past a gap of 60 in the exponents
-- it is a + b. Past the high word 0x5F300000, which is 2^500, both are scaled by 2^-600, and where b is below
-- 0x20B00000, which is 2^-500, by 2^600; the words move along, by 600 in the exponent's field. Where b is subnormal
-- both are scaled by 2^1022, and the words stay what they were: a choice that decides bits. The scalings exclude each
-- other, the gap being at most 60.
unfoldable pub scaled : Float → Float → ℕ → ℕ → Float
scaled a b ha hb =
    let two600 = # 0x6570000000000000 in
    let two-600 = # 0x1A70000000000000 in
    let two1022 = # 0x7FD0000000000000 in
    let two-1022 = # 0x0010000000000000 in
    cond (nat_lt 0x3c00000 (ha - hb)) (a ⊕ b)
    (cond (nat_lt 0x5f300000 ha)
    (cond (nat_le 0x7ff00000 ha) (inf_or_nan a b)
    (two600 ⊗ medium (a ⊗ two-600) (b ⊗ two-600) (ha - 0x25800000) (hb - 0x25800000)))
    (cond (nat_lt hb 0x20b00000)
    (cond (nat_le hb 0x000fffff) (cond (eq b nought) a (two-1022 ⊗ medium (a ⊗ two1022) (b ⊗ two1022) ha hb))
    (two-600 ⊗ medium (a ⊗ two600) (b ⊗ two600) (ha + 0x25800000) (hb + 0x25800000)))
    (medium a b ha hb)))

-- `__ieee754_hypot`. One choice decides bits: the two change places by their high words only, so that b may be the
-- greater where these are equal.
unfoldable pub hypot : Float → Float → Float
hypot x y = cond (nat_lt (high x) (high y)) (scaled (abs y) (abs x) (high y) (high x))
    (scaled (abs x) (abs y) (high x) (high y))
