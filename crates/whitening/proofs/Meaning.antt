-- The statements of specs/Meaning.antt: `up` is the last row of the basis. Assumes nothing.
use mathlib.Core.List.{List}
use Prim.Native.Nat.{ℕ, zero, suc}
use native.Mathlib.Omega.{arith}
use lib.ListN.{get_or}
use lib.Ieee.{Float, nan, fits}
use Rattle.binary64.specs.Meaning.{IsBinary64}
use Rattle.geo.specs.Geo.{from_ecef}
use Rattle.geo.proofs.Meaning.{basis-of-turns, places-turn, basis-of-places}
use Rattle.dense.specs.Entries.{nth}
use Rattle.problem.specs.Problem.{position}
use Rattle.whitening.specs.Meaning.{UpWithinOne, UpOfPlaces, UpOfParameters}

pub up-within-one : UpWithinOne
up-within-one g t u j h = basis-of-turns g.lat_deg g.lon_deg t u 2 j (omega arith) h

-- the position's entries are three of the parameters, and past them there is none
position-fits : (p : List Float) → ((k : ℕ) → IsBinary64 (nth p k)) → (k : ℕ) → IsBinary64 (get_or (position p) k nan)
unfolding fits
position-fits p f zero = f 0
position-fits p f (suc zero) = f 1
position-fits p f (suc (suc zero)) = f 2
position-fits p f (suc (suc (suc k))) = tt

pub up-of-places : UpOfPlaces
up-of-places p f n j h =
    let g = from_ecef (position p) in
    let t = places-turn (position p) (position-fits p f) n in
    basis-of-turns g.lat_deg g.lon_deg t.0 t.1 2 j (omega arith) h

pub up-of-parameters : UpOfParameters
up-of-parameters p f g h n j l = basis-of-places (nth p 0) (nth p 1) (nth p 2) f g h n 2 j (omega arith) l
