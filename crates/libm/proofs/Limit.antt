-- The code's test of an angle, stated with the definition's limit, so that a proof compares the two. Assumes nothing.
use Rattle.std.proofs.Common.{◌≡◌, Bool}
use lib.Ieee.{Float, le}
use Rattle.libm.specs.Trig.{limit}

pub by-limit : (t : Float) (b : Bool) → le t limit ≡ b → le t limit ≡ b
by-limit t b h = h
