-- Somebody is left: who goes is in a failing pair with another one, and that one stays. Assumes nothing.
use mathlib.Core.Path.{◌≡◌, refl, ap, subst, ◌∙◌}
use mathlib.Core.Bool.{Bool, false, ◌&&◌}
use Prim.Native.Nat.{ℕ, ◌<◌}
use lib.Dec.{T, lt→ltb}
use Rattle.sets.specs.Sets.{Subset, without}
use Rattle.sets.proofs.Tests.{and_l, and_r}
use Rattle.sets.proofs.Belonging.{in_without}
use Rattle.sets.proofs.Counting.{count-pos, count-some}
use Rattle.screen.specs.Screen.{clashes, kept}
use Rattle.screen.specs.Meaning.{Goes, Leaves, done, then}
use Rattle.screen.proofs.Removal.{kept-below, only-kept-is-left}
use Rattle.patterns.specs.Patterns.{failing, survivors}
use Rattle.patterns.proofs.Once.{is-pattern}

-- of n receptions, of which none fails with itself
module _ (n : ℕ) (fails : ℕ → ℕ → Bool) (self : (i : ℕ) → fails i i ≡ false) where
  Somebody : Subset → Type 0
  Somebody A = (i : ℕ) × T (A i)

  other-stays : (A : Subset) (i : ℕ) → Goes n fails A i → Somebody (without A i)
  unfolding clashes Somebody
  other-stays A i g =
      let r = count-some (λ (k : ℕ). A k && fails i k) n g.clash in
      let j = r.0 in
      let f = and_r (A j) (fails i j) r.2 in
      (j, (in_without A i j).1 (and_l (A j) (fails i j) r.2, λ e. subst T (ap (fails i) e ∙ self i) f))

  somebody-left : {K A : Subset} → Leaves n fails K A → Somebody A → Somebody K
  somebody-left (done c) s = s
  somebody-left (then {A = A} i g l) s = somebody-left l (other-stays A i g)

  somebody-kept : 0 < n → 0 < survivors n fails
  unfolding survivors Somebody
  somebody-kept h =
      let k = kept n fails in
      let s : Somebody k = somebody-left ((only-kept-is-left n fails k).1 refl) (0, lt→ltb 0 n h) in
      count-pos k n s.0 (kept-below n fails s.0 s.1) s.1

pub one_left : (n p : ℕ) → 0 < n → 0 < survivors n (failing n p)
one_left n p h = somebody-kept n (failing n p) (is-pattern n p).self h
