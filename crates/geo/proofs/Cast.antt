-- What Rust's cast to i64 gives is a number that an i64 holds. Assumes nothing.
use Rattle.std.proofs.Common.{◌≡◌, w64, to_z, of_z}
use lib.Ieee.{Float, to_signed}
use lib.Ieee.Casts.{to_signed_in}
use mir.ValLaws.{to_z-of_z}

-- an i64 holds it
pub held : (x : Float) → to_z w64 (of_z w64 (to_signed 63 x)) ≡ to_signed 63 x
held x = to_z-of_z w64 (to_signed 63 x) (record { sfits = to_signed_in 63 x })
