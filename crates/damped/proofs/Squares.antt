-- Costs, which are sums of squares: no sign, and no less for a square more. Assumes nothing.
use mathlib.Core.Path.{◌≡◌, refl, sym, ap, subst, ◌∙◌}
use mathlib.Core.Logic.{◌⊎◌, inl, inr}
use mathlib.Core.Bool.{true, false, false≢true}
use mathlib.Core.List.{List}
use Prim.Native.Nat.{ℕ, zero, suc, ◌+◌, ◌*◌, ◌^◌, ◌≤◌, ◌<◌}
use native.Mathlib.Nat.{le_trans, le_of_eq, le-add_right, mul_assoc, mul_right_comm, mul-le-mul_right, mul-pos}
use lib.Dec.{T}
use lib.Pow.{pow_pos}
use lib.Ieee.{Float, binary64, nan, inf, fin, up, down, round, sum, add, mul, le, fits, of_bits}
use lib.Ieee.Fits.{down_pos, round-fits, add-fits}
use lib.Ieee.Bits.{of_bits-fits}
use lib.Ieee.Exact.{round_exact}
use lib.Ieee.Order.{round_mono}
use Rattle.binary64.specs.Steps.{◌⊕◌, ◌⊗◌, is_finite}
use Rattle.binary64.proofs.Held.{in-units, is_held, same_units}
use Rattle.binary64.proofs.Numbers.{add_none, none-add}
use Rattle.binary64.proofs.Clear.{clear, add-clear, square-clear}
use Rattle.dense.specs.Entries.{nth}
use Rattle.whitening.specs.Held.{cost_to}

none-square : mul binary64 nan nan ≡ nan
unfolding mul
none-square = refl

-- the square of no number gives no number
pub more-none : (s x : Float) → x ≡ nan → s ⊕ x ⊗ x ≡ nan
more-none s x e = ap (λ (y : Float). s ⊕ y ⊗ y) e ∙ ap (λ (y : Float). s ⊕ y) none-square ∙ add_none binary64 s

pub cost-clear : (r : List Float) (i : ℕ) → T (clear (cost_to r i)) ⊎ (cost_to r i ≡ nan)
unfolding cost_to of_bits
cost-clear r zero = inl tt
cost-clear r (suc i) = go (cost_to r i) (nth r i) (square-clear binary64 (nth r i)) (cost-clear r i)
  where
    go : (s x : Float) → T (clear (x ⊗ x)) ⊎ (x ≡ nan) → T (clear s) ⊎ (s ≡ nan) → T (clear (s ⊕ x ⊗ x)) ⊎ (s ⊕ x ⊗ x ≡ nan)
    go s x (inl a) (inl b) = inl (add-clear binary64 s (x ⊗ x) b a)
    go s x (inr e) b = inr (more-none s x e)
    go s x (inl a) (inr e) = inr (ap (λ (y : Float). y ⊕ x ⊗ x) e ∙ none-add binary64 (x ⊗ x))

pub cost-fits : (r : List Float) (i : ℕ) → T (fits binary64 (cost_to r i))
unfolding cost_to
cost-fits r zero = of_bits-fits binary64 0
cost-fits r (suc i) = add-fits binary64 (cost_to r i) (nth r i ⊗ nth r i)

-- u / de, which is a / L, is no more than (u * dd + b) / (de * dd)
no_less : (a u de dd L b : ℕ) → u * L ≡ a * de → a * (de * dd) ≤ (u * dd + b) * L
no_less a u de dd L b e = le_trans (le_of_eq (sym (mul_assoc a de dd) ∙ ap (λ (x : ℕ). x * dd) (sym e) ∙ mul_right_comm u L dd))
    (mul-le-mul_right L (le-add_right (u * dd) b))

-- a sum is no less than what it adds to
pub grows : (x y : Float) → T (fits binary64 x) → T (clear x) → T (clear y) → is_finite (add binary64 x y) ≡ true → T (le x (add binary64 x y))
unfolding add sum is_finite
grows (inf false) (inf false) t h k g = absurd (false≢true g)
grows (inf false) (fin false n d) t h k g = absurd (false≢true g)
grows (fin false m e) (inf false) t h k g = absurd (false≢true g)
grows (fin false m e) (fin false n d) t h k g =
    let j = in-units false m e t in
    let a = m * 2 ^ j.0 in
    let x = fin false m e in
    let held = is_held x false a t (refl, j.1) in
    let exact = round_exact binary64 false a (2 ^ 1074) held.m held.j (pow_pos 1074) held.digits
    (subst (λ (z : ℕ). z < 2 ^ 2098) held.is held.below) (ap (λ (z : ℕ). z * 2 ^ 1074) held.is) in
    let same : x ≡ round binary64 false a (2 ^ 1074) =
    same_units x (round binary64 false a (2 ^ 1074)) a t (round-fits binary64 false a (2 ^ 1074)) (refl, j.1) exact in
    subst (λ (v : Float). T (le v (round binary64 false (m * up e * down d + n * up d * down e) (down e * down d)))) (sym same)
    (round_mono binary64 a (2 ^ 1074) (m * up e * down d + n * up d * down e) (down e * down d) (pow_pos 1074) (mul-pos (down_pos e) (down_pos d))
    (no_less a (m * up e) (down e) (down d) (2 ^ 1074) (n * up d * down e) j.1))
grows nan y t h k g = elim h [ ]
grows (inf false) nan t h k g = elim k [ ]
grows (inf false) (inf true) t h k g = elim k [ ]
grows (inf false) (fin true n d) t h k g = elim k [ ]
grows (inf true) y t h k g = elim h [ ]
grows (fin false m e) nan t h k g = elim k [ ]
grows (fin false m e) (inf true) t h k g = elim k [ ]
grows (fin false m e) (fin true n d) t h k g = elim k [ ]
grows (fin true m e) y t h k g = elim h [ ]
