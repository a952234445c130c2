-- The starts in the array that `starts` gives, read back as a list, are the starts. Assumes nothing.
use mathlib.Core.Path.{◌≡◌, refl, sym, subst, ◌∙◌}
use mathlib.Core.Logic.{inl, inr}
use mathlib.Core.Bool.{Bool}
use mathlib.Core.List.{List, [], ◌∷◌, ◌++◌}
use Prim.Native.Nat.{ℕ, zero, suc, ◌+◌, ◌<◌}
use native.Mathlib.Omega.{arith}
use lib.ListN.{length, get_or, length-append, get_or-append}
use lib.Seq.{ext_get_or, get_or_at}
use lib.Ieee.{Float}
use Rattle.sets.proofs.Tests.{lt-suc-cases}
use Rattle.problem.specs.declared.Altitude.{Altitude}
use Rattle.starts.specs.declared.Points.{Points}
use Rattle.starts.specs.Held.{empty, packed, point}
use Rattle.starts.specs.Starts.{starts_after}
use Rattle.starts.proofs.Count.{starts-count}
use Rattle.starts.proofs.Back.{starts-at}
use Rattle.best.specs.Held.{points_to}

pub points-length : (at : List Float) (n : ℕ) → length (points_to at n) ≡ n
unfolding points_to
points-length at zero = refl
points-length at (suc n) = length-append (points_to at n) (point at n ∷ [])
    ∙ (let e = points-length at n in let f : length (points_to at n) + 1 ≡ suc n = omega arith in f)

pub points-at : (at : List Float) (n i : ℕ) → i < n → get_or (points_to at n) i [] ≡ point at i
unfolding points_to
points-at at zero i h = absurd (omega arith)
points-at at (suc n) i h = elim (lt-suc-cases i n h) [
  | inl e ↦ subst (λ (j : ℕ). get_or (points_to at n ++ (point at n ∷ [])) j [] ≡ point at j) (sym e)
      (get_or_at (points_to at n) (point at n) [] [] n (points-length at n))
  | inr l ↦ get_or-append (points_to at n) (point at n ∷ []) [] i (subst (λ (m : ℕ). i < m) (sym (points-length at n)) l) ∙ points-at at n i l
]

module _ (sites z : List Float) (k : ℕ) (altitude : Altitude) (had : Bool) (previous : List Float) where
  abbrev all : List (List Float)
  all = starts_after had previous sites z k altitude

  pub points-back : (r : Points) → r ≡ packed empty all → points_to r.at r.n ≡ all
  points-back r e =
      let c : r.n ≡ length all = starts-count sites z k altitude had previous r e in
      ext_get_or [] (points_to r.at r.n) all (points-length r.at r.n ∙ c)
      (λ i h. let l : i < r.n = subst (λ (m : ℕ). i < m) (points-length r.at r.n) h in
      points-at r.at r.n i l ∙ starts-at sites z k altitude had previous r e i (subst (λ (m : ℕ). i < m) c l))
