-- Document 02, item 5: "the whole number nearest the exact value .., halves away from zero", of a fraction of whole
-- numbers. Definitions only; Meaning.antt says what they come to.
use Rattle.std.specs.Prelude.{ℕ, suc, ◌+◌, ◌*◌, ◌/◌, Bool, cond, ℤ, pos, negsuc, neg_ℤ}

-- n, or minus n where the sign is true
abbrev pub signed : Bool → ℕ → ℤ
signed s n = cond s (neg_ℤ (pos n)) (pos n)

-- the whole number nearest a / c, a half up
abbrev pub half_up : ℕ → ℕ → ℕ
half_up a c = (2 * a + c) / (2 * c)

-- the whole number nearest v / c, a half away from zero
unfoldable pub nearest : ℤ → ℕ → ℤ
nearest (pos a) c = pos (half_up a c)
nearest (negsuc a) c = neg_ℤ (pos (half_up (suc a) c))
