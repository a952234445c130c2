-- The test of a range by its square: what `near` tests is never negative, so that its root is tested alike (`root-test`). Assumes nothing.
use mathlib.Core.Path.{◌≡◌, refl, sym, ap, ◌∙◌, subst}
use mathlib.Core.Logic.{◌⊎◌, inl, inr}
use mathlib.Core.List.{List}
use Prim.Native.Nat.{◌^◌}
use lib.Dec.{T, leb→le}
use lib.Ieee.{Float, nan, binary64, mul, le, fits, of_bits}
use lib.Ieee.Fits.{add-fits}
use Rattle.binary64.specs.Steps.{#, ◌⊕◌, ◌⊗◌}
use Rattle.binary64.proofs.Numbers.{add_none, none-add}
use Rattle.binary64.proofs.Clear.{clear, add-clear, square-clear}
use Rattle.binary64.proofs.RootTest.{Limits, root-test}
use Rattle.dense.specs.Entries.{nth}
use Rattle.linalg.specs.Vec3.{dot, norm}

-- 600,000 is 5153960755200000 * 2 ^ -33, and the last binary64 whose root is not above it 5898240000000001 * 2 ^ -14
limits : Limits (# 0x41224F8000000000) (# 0x41224F8000000001) (# 0x4254F46B04000001)
unfolding fits of_bits
limits = record {
  limit_is = tt;
  next-is = tt;
  last-is = tt;
  b = 5153960755200000;
  g = 1041;
  c = 5898240000000001;
  h = 1060;
  limit-units = (refl, refl);
  next-units = (refl, refl);
  last-units = (refl, refl);
  b-full = leb→le (2 ^ 52) 5153960755200000 tt;
  c-full = leb→le (2 ^ 52) 5898240000000001 tt;
  upto = leb→le _ _ tt;
  past = leb→le _ _ tt;
}

-- a number with its sign clear, or none: so are squares, and sums of such
abbrev Plain : Float → Type 0
Plain x = T (clear x) ⊎ (x ≡ nan)

no-square : nan ⊗ nan ≡ nan
unfolding mul
no-square = refl

square-plain : (x : Float) → Plain (x ⊗ x)
square-plain x = elim (square-clear binary64 x) [ inl k ↦ inl k | inr e ↦ inr (subst (λ (z : Float). z ⊗ z ≡ nan) (sym e) no-square) ]

sum-plain : (x y : Float) → Plain x → Plain y → Plain (x ⊕ y)
sum-plain x y (inl h) (inl k) = inl (add-clear binary64 x y h k)
sum-plain x y (inr e) k = inr (ap (λ (z : Float). z ⊕ y) e ∙ none-add binary64 y)
sum-plain x y (inl h) (inr e) = inr (ap (λ (z : Float). x ⊕ z) e ∙ add_none binary64 x)

pub near-is : (d : List Float) → le (norm d) (# 0x41224F8000000000) ≡ le (dot d d) (# 0x4254F46B04000001)
near-is d =
    let a = nth d 0 ⊗ nth d 0 in
    let b = nth d 1 ⊗ nth d 1 in
    let c = nth d 2 ⊗ nth d 2 in
    root-test (# 0x41224F8000000000) (# 0x41224F8000000001) (# 0x4254F46B04000001) limits (dot d d) (add-fits binary64 (a ⊕ b) c)
    (sum-plain (a ⊕ b) c (sum-plain a b (square-plain (nth d 0)) (square-plain (nth d 1))) (square-plain (nth d 2)))
