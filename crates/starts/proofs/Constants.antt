-- The literals of the code have the digits that the definitions give them. Assumes nothing.
use Rattle.std.proofs.Common.{◌≡◌, ℕ, ◌^◌, ◌≤◌, T, pos, sym, refl, subst, le-leb}
use lib.Ieee.{binary64, in_float, of_int, round, of_bits}
use Rattle.binary64.specs.Steps.{#, one, decimal}

pub nine-thousand : decimal 9000 0 ≡ # 0x40C1940000000000
unfolding round of_bits
nine-thousand = refl

pub near-radius : decimal 100000 0 ≡ # 0x40F86A0000000000
unfolding round of_bits
near-radius = refl

pub far-radius : decimal 300000 0 ≡ # 0x41124F8000000000
unfolding round of_bits
far-radius = refl

pub whole-turn : decimal 628318530717958647692528676655900577 35 ≡ # 0x401921FB54442D18
unfolding round of_bits
whole-turn = refl

pub four : decimal 4 0 ≡ # 0x4010000000000000
unfolding round of_bits
four = refl

pub tiny : decimal 1 30 ≡ # 0x39B4484BFEEBC2A0
unfolding round of_bits
tiny = refl

pub count-of-one : of_int binary64 (pos 1) ≡ one
unfolding of_int round of_bits
count-of-one = refl

-- a count is a binary64 exactly
pub small : (n : ℕ) → n ≤ 2 ^ 53 → T (in_float binary64 (pos n))
unfolding in_float
small n h = subst T (sym (le-leb n (2 ^ 53) h)) tt
