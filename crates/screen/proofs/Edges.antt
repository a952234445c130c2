-- Document 01's edges of the screen, each computed, one of them for every site. Assumes nothing.
use mathlib.Core.Path.{◌≡◌, refl, ap, ap₂}
use mathlib.Core.Bool.{Bool, true, false, ◌&&◌, ◌||◌}
use Prim.Native.Nat.{ℕ, ◌+◌, ◌*◌, ◌^◌}
use lib.Dec.{eqb}
use lib.IntN.{ℤ, pos, negsuc}
use Rattle.binary64.specs.Root.{floor_root}
use Rattle.screen.specs.Pair.{Site, square, baseline, passes}
use Rattle.screen.specs.Screen.{kept}
use Rattle.screen.proofs.Gaps.{gap-self}

abbrev at : ℤ → ℤ → ℤ → Site
at x y z = record { x = x; y = y; z = z }

-- ---- "One site twice: gap 3,335,640 ps passes, 3,335,641 fails.", whatever the site
pub no-baseline : (s : Site) → baseline s s ≡ 0
unfolding baseline
no-baseline s = ap₂ (λ (xy z : ℕ). floor_root (xy + square z))
    (ap₂ (λ (x y : ℕ). square x + square y) (gap-self s.x) (gap-self s.y)) (gap-self s.z)

pub one-site-passes : (s : Site) → passes 3_335_640 (baseline s s) ≡ true
unfolding passes
one-site-passes s = ap (passes 3_335_640) (no-baseline s)

pub one-site-fails : (s : Site) → passes 3_335_641 (baseline s s) ≡ false
unfolding passes
one-site-fails s = ap (passes 3_335_641) (no-baseline s)

-- ---- "Baseline 148,896,229 mm: 500,000,000 passes (equality), 500,000,001 fails."
pub equality : 500_000_000 * 299_792_458 ≡ (148_896_229 + 1_000_000) * 10 ^ 9
equality = refl

pub equality-passes : passes 500_000_000 148_896_229 ≡ true
unfolding passes
equality-passes = refl

pub one-more-fails : passes 500_000_001 148_896_229 ≡ false
unfolding passes
one-more-fails = refl

-- ---- "Differences (2, 2, 2) mm: baseline 3. (2·10^10 on each axis): 34,641,016,151."
pub baseline-of-twos : baseline (at (pos 0) (pos 0) (pos 0)) (at (pos 2) (pos 2) (pos 2)) ≡ 3
unfolding baseline
baseline-of-twos = refl

-- from one end of the domain to the other: `negsuc k` is -(k + 1)
pub baseline-of-the-farthest :
    baseline (at (negsuc 9_999_999_999) (negsuc 9_999_999_999) (negsuc 9_999_999_999))
    (at (pos 10_000_000_000) (pos 10_000_000_000) (pos 10_000_000_000)) ≡ 34_641_016_151
unfolding baseline
baseline-of-the-farthest = refl

-- ---- "Receptions 0, 1, 2, only 0–1 failing: 0 goes. 0–1 and 1–2 failing: 1 goes."
abbrev pair_of : ℕ → ℕ → ℕ → ℕ → Bool
pair_of a b i j = eqb i a && eqb j b || eqb i b && eqb j a

pub first-goes : (kept 3 (pair_of 0 1) 0 ≡ false) × (kept 3 (pair_of 0 1) 1 ≡ true) × (kept 3 (pair_of 0 1) 2 ≡ true)
unfolding kept
first-goes = (refl, refl, refl)

abbrev two_pairs : ℕ → ℕ → Bool
two_pairs i j = pair_of 0 1 i j || pair_of 1 2 i j

pub middle-goes : (kept 3 two_pairs 0 ≡ true) × (kept 3 two_pairs 1 ≡ false) × (kept 3 two_pairs 2 ≡ true)
unfolding kept
middle-goes = (refl, refl, refl)
