-- Document 01's domain: "Every end is included; float limits are compared in binary64." Definitions only.
use Rattle.std.specs.Prelude.{Bool, false, cond, ◌&&◌, ◌||◌, List, ℕ, eqb, ℤ, pos, negsuc, get_or, Float}
use Rattle.std.specs.Int.Signed.{le_z}
use Rattle.std.specs.Float.Ieee.{le, neg}
use Rattle.binary64.specs.Steps.{nought, decimal}
use Rattle.receptions.specs.declared.Reception.{Reception}

abbrev pub between : ℤ → ℤ → ℤ → Bool
between low high x = le_z low x && le_z x high

-- a not-a-number is within no limits, and -0 within those from 0
abbrev pub within : Float → Float → Float → Bool
within low high x = le low x && le x high

-- "time 0 to 10^13"
abbrev pub good_time : ℤ → Bool
good_time = between (pos 0) (pos 10000000000000)

-- "site coordinates within ±10^10"
abbrev pub good_coordinate : ℤ → Bool
good_coordinate = between (negsuc 9999999999) (pos 10000000000)

abbrev pub good_site : List ℤ → Bool
good_site site =
    good_coordinate (get_or site 0 (pos 0))
    && (good_coordinate (get_or site 1 (pos 0)) && good_coordinate (get_or site 2 (pos 0)))

-- "z 0 to 3·10^9"
unfoldable pub good_z : Float → Bool
good_z = within nought (decimal 3000000000 0)

-- "noise 10^-6 to 10^12"
unfoldable pub good_noise : Float → Bool
good_noise = within (decimal 1 6) (decimal 1000000000000 0)

-- all of these, and zero bytes
unfoldable pub good_reception : Reception → Bool
good_reception r =
    good_time r.time
    && (good_site r.site_mm && ((good_z r.z && good_noise r.noise_m2) && eqb r.filler 0))

-- "clock diagonal 0 to 10^12, the entries right of it within ±10^12": the entry x in row i and column j
unfoldable pub good_entry : ℕ → ℕ → Float → Bool
good_entry i j x = let limit = decimal 1000000000000 0 in within (cond (eqb i j) nought (neg limit)) limit x

-- "metres within ±100,000"
unfoldable pub good_metres : Float → Bool
good_metres = let limit = decimal 100000 0 in within (neg limit) limit

-- Document 02, Item 8: "an i32 in centimetres, within ±100,000"
abbrev pub good_correction : ℤ → Bool
good_correction = between (negsuc 99999) (pos 100000)

abbrev pub is_zero : ℤ → Bool
is_zero (pos x) = eqb x 0
is_zero (negsuc x) = false

-- "altitude kind 1 or 2". Document 02, Item 8: "For GNSS it must be 0"; "The domain test on metres is made before the
-- addition."
unfoldable pub good_altitude : ℕ → ℤ → Float → Bool
good_altitude kind correction metres =
    ((eqb kind 1 && good_correction correction) || (eqb kind 2 && is_zero correction)) && good_metres metres
