-- The pair test of document 01's screen, in whole numbers of any size: "gap × 299,792,458 ≤ (baseline + 1,000,000) ×
-- 10^9, baseline the floored root". Definitions only.
use Rattle.std.specs.Prelude.{Bool, not, ◌&&◌, List, ℕ, ◌+◌, ◌*◌, ◌^◌, leb, ltb, get_or, ℤ, pos, nat_abs, ◌-ℤ◌}
use Rattle.binary64.specs.Root.{floor_root}

-- how far two numbers are apart: the picoseconds between two times, or the millimetres between two coordinates
abbrev pub gap : ℤ → ℤ → ℕ
gap s t = nat_abs (s -ℤ t)

abbrev pub square : ℕ → ℕ
square d = d * d

-- a site by its coordinates, millimetres
pub record Site : Type 0 where
  pub x : ℤ
  pub y : ℤ
  pub z : ℤ

-- `squared` of solve.rs: the squares of the differences of two sites along the three axes, summed
abbrev pub squared : Site → Site → ℕ
squared a b = square (gap a.x b.x) + square (gap a.y b.y) + square (gap a.z b.z)

-- the millimetres between two sites: the floored root of that sum, which is the greatest whole number whose square is
-- not above it (`FloorRootIsGreatest` of wide)
unfoldable pub baseline : Site → Site → ℕ
unfolding floor_root
baseline a b = floor_root (squared a b)

-- whether a pair with the gap g and the baseline b passes
unfoldable pub passes : ℕ → ℕ → Bool
passes g b = leb (g * 299_792_458) ((b + 1_000_000) * 10 ^ 9)

-- ---- receptions as the solve holds them: the times of all, and the sites of all, three coordinates each
abbrev pub time_at : List ℤ → ℕ → ℤ
time_at times i = get_or times i (pos 0)

abbrev pub site_at : List ℤ → ℕ → Site
site_at sites i = record {
  x = get_or sites (3 * i) (pos 0);
  y = get_or sites (3 * i + 1) (pos 0);
  z = get_or sites (3 * i + 2) (pos 0);
}

-- the pair of receptions i and j passes
abbrev pub pair_passes : List ℤ → List ℤ → ℕ → ℕ → Bool
pair_passes times sites i j = passes (gap (time_at times i) (time_at times j)) (baseline (site_at sites i) (site_at sites j))

-- it fails; no reception is in a failing pair with itself, as its gap is 0
unfoldable pub clash : List ℤ → List ℤ → ℕ → ℕ → Bool
unfolding passes baseline
clash times sites i j = not (pair_passes times sites i j)

-- the pair i, j of the first n receptions fails
unfoldable pub fails : List ℤ → List ℤ → ℕ → ℕ → ℕ → Bool
unfolding clash
fails times sites n i j = ltb i n && (ltb j n && clash times sites i j)
