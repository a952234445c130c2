-- The pair test without a root: a pair passes where its baseline reaches what light goes in its gap less the margin, rounded up. Assumes nothing.
use mathlib.Core.Path.{◌≡◌, refl, sym, ap, ap₂, ◌∙◌}
use mathlib.Core.Bool.{Bool, true, not}
use mathlib.Core.List.{List}
use Prim.Native.Nat.{ℕ, ◌+◌, ◌-◌, ◌*◌, ◌/◌, ◌^◌, ◌≤◌, ◌<◌}
use native.Mathlib.Nat.{le_trans, mul-le-mul}
use native.Mathlib.Omega.{arith}
use lib.Dec.{leb, leb→le, le→leb}
use lib.IntN.{ℤ}
use lib.Bits.{bit_or}
use borrow.Author.Tests.{le-leb}
use Rattle.binary64.specs.Root.{floor_root}
use Rattle.binary64.proofs.BitTests.{or-le}
use Rattle.sets.proofs.Tests.{same-T}
use Rattle.wide.proofs.Floor.{greatest-root}
use Rattle.screen.specs.Pair.{gap, baseline, squared, passes, time_at, site_at, clash}

-- ---- the gap's side

-- the millimetres that light goes in g picoseconds, rounded up
abbrev pub light_in : ℕ → ℕ
light_in g = (g * 299_792_458 + 999_999_999) / 10 ^ 9

enough : (g b : ℕ) → light_in g ≤ b + 1_000_000 → g * 299_792_458 ≤ (b + 1_000_000) * 10 ^ 9
enough g b h = omega arith

needed : (g b : ℕ) → g * 299_792_458 ≤ (b + 1_000_000) * 10 ^ 9 → light_in g ≤ b + 1_000_000
needed g b h = omega arith

pub passes-from : (g r : ℕ) → r ≡ light_in g - 1_000_000 → (b : ℕ) → passes g b ≡ leb r b
unfolding passes
passes-from g r e b =
    let light = light_in g in
    same-T (leb (g * 299_792_458) ((b + 1_000_000) * 10 ^ 9)) (leb r b)
    (λ t. le→leb r b (omega (arith, needed g b (leb→le (g * 299_792_458) ((b + 1_000_000) * 10 ^ 9) t))))
    (λ t. le→leb (g * 299_792_458) ((b + 1_000_000) * 10 ^ 9) (enough g b (omega (arith, leb→le r b t))))

-- ---- the baseline's side

-- a floored root reaches t where the number reaches the square of t, and nowhere else
pub root-reaches : (t n : ℕ) → leb (t * t) n ≡ leb t (floor_root n)
root-reaches t n =
    same-T (leb (t * t) n) (leb t (floor_root n))
    (λ h. le→leb t (floor_root n) ((greatest-root n).greatest t (leb→le (t * t) n h)))
    (λ h. let l = leb→le t (floor_root n) h in le→leb (t * t) n (le_trans (mul-le-mul l l) (greatest-root n).not-above))

-- four numbers whose bits together are those of a number below 2 ^ 31
pub all-below : (x y z t : ℕ) → bit_or (bit_or (bit_or x y) z) t < 2 ^ 31 → (x < 2 ^ 31) × (y < 2 ^ 31) × (z < 2 ^ 31) × (t < 2 ^ 31)
all-below x y z t h =
    let a = or-le (bit_or (bit_or x y) z) t in
    let b = or-le (bit_or x y) z in
    let c = or-le x y in
    (omega arith, omega arith, omega arith, omega arith)

-- the square of a number below 2 ^ 31
pub small-square : (d : ℕ) → d < 2 ^ 31 → d * d ≤ 2 ^ 62
small-square d l = let h : d ≤ 2 ^ 31 = omega arith in mul-le-mul h h

-- one axis alone may
pub axis-reaches : (t x n : ℕ) → t ≤ x → x * x ≤ n → true ≡ leb t (floor_root n)
axis-reaches t x n l h = sym (le-leb t (floor_root n) (le_trans l ((greatest-root n).greatest x h)))

-- ---- a pair, as the code tests it
module _ (times sites : List ℤ) (i j : ℕ) where
  pub clash-is : (least : ℕ) {g x y z : ℕ} {r : Bool} → g ≡ gap (time_at times i) (time_at times j)
      → x ≡ gap (site_at sites i).x (site_at sites j).x → y ≡ gap (site_at sites i).y (site_at sites j).y → z
      ≡ gap (site_at sites i).z (site_at sites j).z
      → ((b : ℕ) → passes g b ≡ leb least b) → r ≡ leb least (floor_root (x * x + y * y + z * z)) → not r ≡ clash times sites i j
  unfolding clash baseline
  clash-is least {x = x} {y = y} {z = z} eg ex ey ez from e =
      let same : x * x + y * y + z * z ≡ squared (site_at sites i) (site_at sites j) = rw (ex, ey, ez) refl in
      ap not (e ∙ sym (from (floor_root (x * x + y * y + z * z))) ∙ ap₂ (λ (h s : ℕ). passes h (floor_root s)) eg same)
