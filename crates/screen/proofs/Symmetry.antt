-- A pair fails or passes whichever of the two is named first, and a reception passes with itself. Assumes nothing.
use mathlib.Core.Path.{◌≡◌, refl, ap, ap₂}
use mathlib.Core.Bool.{false, not}
use mathlib.Core.List.{List}
use Prim.Native.Nat.{ℕ, ◌+◌, ◌*◌, ◌^◌}
use native.Mathlib.Omega.{arith}
use lib.IntN.{ℤ}
use borrow.Author.Tests.{le-leb}
use Rattle.binary64.specs.Root.{floor_root}
use Rattle.screen.specs.Pair.{Site, gap, squared, baseline, passes, time_at, site_at, clash}
use Rattle.screen.proofs.Gaps.{gap-sym, gap-self}

squared-sym : (a b : Site) → squared a b ≡ squared b a
squared-sym a b = rw (gap-sym a.x b.x, gap-sym a.y b.y, gap-sym a.z b.z) refl

module _ (times sites : List ℤ) where
  pub clash-sym : (i j : ℕ) → clash times sites i j ≡ clash times sites j i
  unfolding clash baseline
  clash-sym i j = ap₂ (λ (g s : ℕ). not (passes g (floor_root s))) (gap-sym (time_at times i) (time_at times j))
      (squared-sym (site_at sites i) (site_at sites j))

  pub clash-self : (i : ℕ) → clash times sites i i ≡ false
  unfolding clash passes
  clash-self i =
      let b = baseline (site_at sites i) (site_at sites i) in
      let e : gap (time_at times i) (time_at times i) ≡ 0 = gap-self (time_at times i) in
      ap not (le-leb (gap (time_at times i) (time_at times i) * 299_792_458) ((b + 1_000_000) * 10 ^ 9) (omega arith))
