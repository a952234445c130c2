-- Parts of a problem and of a fit's parameters: `Problem`, `Item` and `Params` of solve.rs. Definitions only.
use Rattle.std.specs.Prelude.{List, [], ◌∷◌, ℕ, ◌+◌, ◌*◌, Float}
use Rattle.dense.specs.Entries.{nth}
use Rattle.linalg.specs.Vec3.{three, sub, norm}
use Rattle.problem.specs.declared.Altitude.{Altitude}
use Rattle.problem.specs.declared.Altitude.TheVariants.{None, Barometric, Gnss}

-- the site of reception i, of sites that stand three coordinates each
abbrev pub site_at : List Float → ℕ → List Float
site_at sites i = nth sites (3 * i) ∷ nth sites (3 * i + 1) ∷ nth sites (3 * i + 2) ∷ []

-- how far a place x is from the i-th site
abbrev pub range : List Float → List Float → ℕ → Float
range sites x i = norm (sub x (site_at sites i))

-- parameters by their components
abbrev pub four : (ℕ → Float) → List Float
four f = f 0 ∷ f 1 ∷ f 2 ∷ f 3 ∷ []

-- "Parameters: ECEF position and transmit time (metres of light time after the reference)": the position, and the time
abbrev pub position : List Float → List Float
position params = three (nth params)

abbrev pub transmit_m : List Float → Float
transmit_m params = nth params 3

-- `Problem::minimum`. Document 01: "fewer included than 4 (3 with altitude)" are too few.
abbrev pub minimum : Altitude → ℕ
minimum None = 4
minimum (Barometric metres) = 3
minimum (Gnss metres) = 3
