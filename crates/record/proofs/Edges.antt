-- Records worked out from the definitions alone. Assumes nothing.
use mathlib.Core.Path.{◌≡◌, refl}
use mathlib.Core.List.{◌∷◌}
use lib.ListN.{replicate, set}
use lib.Ieee.{to_bits, of_bits}
use Rattle.words.specs.Words.{put_word, put_u16, put_u32, put_u64, put_f64}
use Rattle.problem.specs.declared.Altitude.TheVariants.{None}
use Rattle.record.specs.Record.{written, foot, blank_record, refusal}

-- ---- "byte 07 and 175 zero bytes", "byte 01 and 175 zero bytes"
pub whole : (refusal 7 0 0 ≡ 7 ∷ replicate 175 0) × (refusal 1 0 0 ≡ 1 ∷ replicate 175 0)
unfolding refusal put_u32 put_word
whole = (refl, refl)

-- n is shown for 9 and not for 10, a detail of two bytes lowest first
pub considered : (refusal 9 258 32 ≡ set (set (set (set blank_record 0 9) 4 2) 5 1) 8 32)
    × (refusal 10 258 32 ≡ set (set (set blank_record 0 10) 4 2) 5 1)
unfolding refusal put_u32 put_word
considered = (refl, refl)

-- "zero bytes where none"
pub no-altitude : written blank_record (foot None) ≡ set blank_record 160 8
unfolding put_u16 put_f64 put_u64 put_word of_bits to_bits
no-altitude = refl
