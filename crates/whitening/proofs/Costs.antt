-- The cost, and arrays that are filled. Assumes nothing.
use mathlib.Core.Path.{◌≡◌, refl, sym, ap, ap₂, ◌∙◌}
use mathlib.Core.Logic.{◌⊎◌, inl, inr, ◌≢◌}
use mathlib.Core.List.{List}
use Prim.Native.Nat.{ℕ, zero, suc, ◌+◌, ◌≤◌, ◌<◌}
use native.Mathlib.Nat.{eq-or-lt_of_le}
use native.Mathlib.Numerals.{add-one}
use native.Mathlib.Omega.{arith}
use lib.ListN.{get_or, length, set, length-set}
use lib.Seq.{get_or-set_same, get_or-set_other}
use lib.Ieee.{Float, nan}
use Rattle.binary64.specs.Steps.{◌⊕◌, ◌⊗◌}
use Rattle.dense.specs.Entries.{nth}
use Rattle.dense.specs.Solve.{forward_to, forward}
use Rattle.whitening.specs.Whitened.{Rows, fill_to}
use Rattle.whitening.specs.Normal.{normal_to}
use Rattle.whitening.specs.Held.{cost_to}

-- the cost of the normal equations is that of the residuals
pub cost-is : (w : Rows) (i : ℕ) → (normal_to w i).cost ≡ cost_to w.r i
unfolding normal_to cost_to
cost-is w zero = refl
cost-is w (suc i) = ap (λ (s : Float). s ⊕ nth w.r i ⊗ nth w.r i) (cost-is w i)

-- it does not see what lies past its rows
cost-past : (r : List Float) (k : ℕ) (v : Float) (i : ℕ) → i ≤ k → cost_to (set r k v) i ≡ cost_to r i
unfolding cost_to
cost-past r k v zero h = refl
cost-past r k v (suc i) h =
    let other : i ≢ k = λ e. omega arith in
    ap₂ (λ (s x : Float). s ⊕ x ⊗ x) (cost-past r k v i (omega arith)) (get_or-set_other r k i v nan other)

-- one residual more
pub cost-more : (r : List Float) (k : ℕ) (v s : Float) → k < length r → s ≡ cost_to r k → s ⊕ v ⊗ v ≡ cost_to (set r k v) (k + 1)
unfolding cost_to
cost-more r k v s h e = ap₂ (λ (t x : Float). t ⊕ x ⊗ x) (e ∙ sym (cost-past r k v k (omega arith))) (sym (get_or-set_same r k v nan h))
    ∙ ap (cost_to (set r k v)) (sym (add-one k))

pub forward-length : (l : List Float) (n : ℕ) (b : List Float) (i : ℕ) → length (forward_to l n b i) ≡ length b
unfolding forward_to
forward-length l n b zero = refl
forward-length l n b (suc i) = length-set (forward_to l n b i) i _ ∙ forward-length l n b i

pub fill-length : (f : ℕ → Float) (out : List Float) (n : ℕ) → length (fill_to out f n) ≡ length out
unfolding fill_to
fill-length f out zero = refl
fill-length f out (suc n) = length-set (fill_to out f n) n (f n) ∙ fill-length f out n

-- and one that is solved in place keeps its room
pub room-left : (l : List Float) (f : ℕ → Float) (out : List Float) (k n : ℕ) → length (forward l k (fill_to out f n)) ≡ length out
room-left l f out k n = forward-length l k (fill_to out f n) k ∙ fill-length f out n

-- a filled array holds what it is filled with
pub fill-at : (f : ℕ → Float) (out : List Float) (n j : ℕ) → n ≤ length out → j < n → nth (fill_to out f n) j ≡ f j
unfolding fill_to
fill-at f out zero j l h = absurd (omega arith)
fill-at f out (suc n) j l h = let here : j ≤ n = omega arith in go (eq-or-lt_of_le here) (λ k. fill-at f out n j (omega arith) k)
  where
    known : List Float
    known = fill_to out f n

    go : (j ≡ n) ⊎ (j < n) → (j < n → nth known j ≡ f j) → get_or (set known n (f n)) j nan ≡ f j
    go (inl e) rec = ap (λ (x : ℕ). get_or (set known n (f n)) x nan) e
        ∙ get_or-set_same known n (f n) nan (omega (arith, fill-length f out n)) ∙ ap f (sym e)
    go (inr k) rec = get_or-set_other known n j (f n) nan (λ e. omega arith) ∙ rec k
