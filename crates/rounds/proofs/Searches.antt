-- The outlier rule over an array of residuals comes to the same over residuals that are equal. Assumes nothing.
use Rattle.std.proofs.Common.{◌≡◌, ℕ, ◌<◌, Bool, true, false, not, ◌&&◌, T, ltb, ◌⊎◌, refl, ap, ◌∙◌, ap₂, inl, inr}
use mathlib.Core.Option.{Option}
use lib.Ieee.{Float, lt, le, is_nan}
use Rattle.sets.specs.Sets.{Subset}
use Rattle.sets.proofs.Tests.{and_l}
use Rattle.sets.proofs.Counting.{count_same}
use Rattle.best.proofs.Cheapest.{same-choice}
use Rattle.rounds.specs.Setting.{five}
use Rattle.rounds.specs.Setting.{greater, less}
use Rattle.rounds.specs.Rounds.{above, worst, readmissible, least, no_number, unnumbered, turned, decided}

-- ---- the rule reads the residuals of kept and included receptions only

-- two tests after a first, equal where that one passes
pub and_same : (a c d : Bool) → (T a → c ≡ d) → (a && c) ≡ (a && d)
and_same true c d h = h tt
and_same false c d h = refl

pub decided-same : {F : Type 0} (K S : Subset) (z y : ℕ → Float) (n : ℕ) (f : F) → ((j : ℕ) → j < n → T (K j) ⊎ T (S j) → z j ≡ y j)
    → decided K S z n f ≡ decided K S y n f
unfolding decided
decided-same K S z y n f e =
    ap (λ (c : ℕ). turned S f (ltb 0 c) (worst S z n) (least K S z n)) (count_same (no_number K z) (no_number K y) n
    (λ j l. and_same (K j) (is_nan (z j)) (is_nan (y j)) (λ t. ap is_nan (e j l (inl t)))))
    ∙ ap₂ (λ (w l : Option ℕ). turned S f (unnumbered K y n) w l)
    (same-choice (above S z) (above S y) (greater z) (greater y) n
    (λ j l. and_same (S j) (lt five (z j)) (lt five (y j)) (λ t. ap (lt five) (e j l (inr t))))
    (λ i j l m s t. ap₂ lt (e j m (inr (and_l (S j) (lt five (z j)) t))) (e i l (inr (and_l (S i) (lt five (z i)) s)))))
    (same-choice (readmissible K S z) (readmissible K S y) (less z) (less y) n
    (λ j l. and_same (K j && not (S j)) (le (z j) five) (le (y j) five)
    (λ t. ap (λ (x : Float). le x five) (e j l (inl (and_l (K j) (not (S j)) t)))))
    (λ i j l m s t. ap₂ lt (e i l (out i s)) (e j m (out j t))))
  where
    out : (j : ℕ) → T (readmissible K S z j) → T (K j) ⊎ T (S j)
    out j t = inl (and_l (K j) (not (S j)) (and_l (K j && not (S j)) (le (z j) five) t))
