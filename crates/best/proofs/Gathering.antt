-- The gathered site of a place is the site of the reception there. Assumes nothing.
use mathlib.Core.Path.{◌≡◌, refl, sym, subst, ◌∙◌}
use mathlib.Core.Logic.{◌⊎◌, inl, inr}
use mathlib.Core.List.{List, [], ◌∷◌}
use Prim.Native.Nat.{ℕ, zero, suc, ◌+◌, ◌*◌, ◌≤◌, ◌<◌}
use native.Mathlib.Omega.{arith}
use lib.ListN.{length, length-set}
use lib.Ieee.{Float}
use Rattle.dense.specs.Entries.{nth}
use Rattle.sets.proofs.Tests.{lt-suc-cases}
use Rattle.problem.specs.Problem.{site_at}
use Rattle.problem.specs.Gathered.{pick, put_site, sites_to}
use Rattle.starts.proofs.Stores.{three-kept, three-read}

put-length : (w : List Float) (a : ℕ) (s : List Float) → length (put_site w a s) ≡ length w
put-length w a s = simp length-set

put-here : (w : List Float) (a : ℕ) (s : List Float) → 3 * a + 2 < length w → site_at (put_site w a s) a ≡ nth s 0 ∷ nth s 1 ∷ nth s 2 ∷ []
put-here w a s h = three-read w (3 * a) (nth s 0) (nth s 1) (nth s 2) h

put_other : (w : List Float) (a j : ℕ) (s : List Float) → j < a → site_at (put_site w a s) j ≡ site_at w j
put_other w a j s h = three-kept w (3 * a) (nth s 0) (nth s 1) (nth s 2) (3 * j) (omega arith)

module _ (sites : List Float) (index : List ℕ) (out : List Float) where
  sites-length : (k : ℕ) → length (sites_to sites index out k) ≡ length out
  unfolding sites_to
  sites-length zero = refl
  sites-length (suc a) = put-length (sites_to sites index out a) a (site_at sites (pick index a)) ∙ sites-length a

  pub sites-at : (k : ℕ) → 3 * k ≤ length out → (a : ℕ) → a < k → site_at (sites_to sites index out k) a ≡ site_at sites (pick index a)
  unfolding sites_to
  sites-at zero h a l = absurd (omega arith)
  sites-at (suc k) h a l = go (lt-suc-cases a k l) (λ q. sites-at k (omega arith) a q)
    where
      known : List Float
      known = sites_to sites index out k

      go : (a ≡ k) ⊎ (a < k) → (a < k → site_at known a ≡ site_at sites (pick index a)) → site_at (put_site known k (site_at sites (pick index k))) a
          ≡ site_at sites (pick index a)
      go (inl e) f = subst (λ (j : ℕ). site_at (put_site known k (site_at sites (pick index k))) j ≡ site_at sites (pick index j)) (sym e)
          (put-here known k (site_at sites (pick index k)) (omega (arith, sites-length k)))
      go (inr q) f = put_other known k a (site_at sites (pick index k)) q ∙ f q
