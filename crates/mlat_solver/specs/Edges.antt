-- Document 01, 'Edges, to either side': those marked †, as one table; and two sentences of 'Numbers under all' that no
-- answer of a solve is known to turn on. Statements only: proofs/Edges.antt proves them.
use Rattle.std.specs.Prelude.{◌≡◌, Bool, true, false, not, ◌&&◌, ◌||◌, ℕ, ◌+◌, ◌*◌, ◌^◌, T, eqb, ℤ, pos, negsuc, Float}
use Rattle.std.specs.Float.{fin, binary64}
use Rattle.std.specs.Float.Ieee.{neg, lt, to_bits}
use Rattle.binary64.specs.Steps.{#, decimal, nought, one, max_of}
use Rattle.binary64.specs.Root.{root}
use Rattle.binary64.specs.Rounding.{half_away}
use Rattle.dense.specs.Entries.{dots}
use Rattle.screen.specs.Pair.{Site, baseline, passes}
use Rattle.screen.specs.Screen.{kept}
use Rattle.limits.specs.Limits.{dof, chi2_limit}

-- a site on the diagonal of the axes
abbrev pub diagonal : ℤ → Site
diagonal x = record { x = x; y = x; z = x }

-- the pair a, b
abbrev pub pair : ℕ → ℕ → ℕ → ℕ → Bool
pair a b i j = eqb i a && eqb j b || eqb i b && eqb j a

-- which of receptions 0, 1, 2 are kept, where these pairs fail
abbrev pub Kept : (ℕ → ℕ → Bool) → Bool → Bool → Bool → Type 0
Kept fails a b c = (kept 3 fails 0 ≡ a) × (kept 3 fails 1 ≡ b) × (kept 3 fails 2 ≡ c)

-- `fin s m (pos k)` is m * 2 ^ k and `fin s m (negsuc k)` is m * 2 ^ -(k + 1), negative where s is true
pub record Edges : Type 0 where
  -- "One site twice: gap 3,335,640 ps passes, 3,335,641 fails.", whatever the site
  pub one_site : (s : Site) → (passes 3_335_640 (baseline s s) ≡ true) × (passes 3_335_641 (baseline s s) ≡ false)
  -- "Baseline 148,896,229 mm: 500,000,000 passes (equality), 500,000,001 fails."
  pub equality : 500_000_000 * 299_792_458 ≡ (148_896_229 + 1_000_000) * 10 ^ 9
  pub at_equality : (passes 500_000_000 148_896_229 ≡ true) × (passes 500_000_001 148_896_229 ≡ false)
  -- "Differences (2, 2, 2) mm: baseline 3. (2·10^10 on each axis): 34,641,016,151."
  pub twos : baseline (diagonal (pos 0)) (diagonal (pos 2)) ≡ 3
  pub farthest : baseline (diagonal (negsuc 9_999_999_999)) (diagonal (pos 10_000_000_000)) ≡ 34_641_016_151
  -- "Receptions 0, 1, 2, only 0–1 failing: 0 goes. 0–1 and 1–2 failing: 1 goes."
  pub first_goes : Kept (pair 0 1) false true true
  pub middle_goes : Kept (λ i j. pair 0 1 i j || pair 1 2 i j) true false true
  -- "Root of 2 has bits 3FF6A09E667F3BCD (hexadecimal). Root of 2^-1074 is 2^-537."
  pub root_of_two : to_bits binary64 (root (fin false 1 (pos 1))) ≡ 0x3FF6A09E667F3BCD
  pub root_of_least : root (fin false 1 (negsuc 1073)) ≡ fin false 1 (negsuc 536)
  -- "2.5 rounds to 3, -2.5 to -3, 0.49999999999999994 to 0."
  pub up : half_away (fin false 5 (negsuc 0)) ≡ fin false 3 (pos 0)
  pub down : half_away (fin true 5 (negsuc 0)) ≡ fin true 3 (pos 0)
  pub below_half : half_away (decimal 49_999_999_999_999_994 17) ≡ nought
  -- "dof of 4 without altitude 0; 3 with 0; 4 with 1. `chi2_limit(0)` is 0."
  pub degrees : (dof 4 false ≡ 0) × (dof 3 true ≡ 0) × (dof 4 true ≡ 1)
  pub no_redundancy : chi2_limit 0 ≡ nought

-- "Sums start from plus zero": so the sum of n products 0 × -1, which are all -0, is plus zero, for every n
abbrev pub SumsFromPlusZero : Type 0
SumsFromPlusZero = (n : ℕ) → to_bits binary64 (dots (λ i. nought) (λ i. neg one) n) ≡ 0

-- "`max` gives its second argument unless the first is greater", of zeros too: -0 and 0 give 0, 0 and -0 give -0
abbrev pub MaxGivesSecond : Type 0
MaxGivesSecond =
    ((a b : Float) → T (not (lt b a)) → max_of a b ≡ b) × ((a b : Float) → T (lt b a) → max_of a b ≡ a)
    × (max_of (neg nought) nought ≡ # 0) × (max_of nought (neg nought) ≡ # 0x8000000000000000)
