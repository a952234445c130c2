-- The place that the code carries beside a state, and beside the fit that it ends in. Assumes nothing.
use mathlib.Core.Path.{◌≡◌, sym, ap, subst, ◌∙◌}
use mathlib.Core.Bool.{Bool, true, false, cond}
use mathlib.Core.List.{List}
use lib.Dec.{T}
use lib.Ieee.{Float}
use Rattle.std.specs.Prelude as option
use Rattle.geo.specs.declared.Geodetic.{Geodetic}
use Rattle.problem.specs.declared.Altitude.{Altitude}
use Rattle.whitening.specs.Held.{row_place}
use Rattle.whitening.specs.declared.Equations.{Equations}
use Rattle.damped.specs.declared.Lm.{Lm}
use Rattle.damped.specs.declared.Stepped.{Stepped}
use Rattle.damped.specs.declared.Fit.{Fit}
use Rattle.damped.specs.Damped.{descent, small, accepted, rejected, fitted, unfitted, settled, plain}

-- ---- after a step: that of the state where the step is left, that of the candidate where it is taken
module _ (a : Altitude) (g : Geodetic) (t : Stepped) where
  pub stays : (s : Lm) → g ≡ row_place a s.params → t ≡ rejected s → g ≡ row_place a t.state.params
  unfolding rejected
  stays s e h = e ∙ ap (λ (q : Stepped). row_place a q.state.params) (sym h)

  pub moves : (lambda : Float) (x p : List Float) (next : Equations) → g ≡ row_place a p → t ≡ accepted lambda x p next → g
      ≡ row_place a t.state.params
  unfolding accepted
  moves lambda x p next e h = e ∙ ap (λ (q : Stepped). row_place a q.state.params) (sym h)

-- ---- at the end: that of the state, where it is a fit
module _ (a : Altitude) (g : Geodetic) (f : Fit) where
  pub unfitted-at : f ≡ unfitted → f.ok ≡ true → g ≡ row_place a f.params
  unfitted-at e h = absurd (subst T (sym h ∙ ap (λ (x : Fit). x.ok) e) tt)

  pub fitted-at : (s : Lm) → g ≡ row_place a s.params → f ≡ fitted s → f.ok ≡ true → g ≡ row_place a f.params
  fitted-at s e d h = e ∙ ap (λ (x : Fit). row_place a x.params) (sym d)

  pub plain_at : (s : Lm) → g ≡ row_place a s.params → f ≡ plain s → f.ok ≡ true → g ≡ row_place a f.params
  unfolding plain
  plain_at s e d h = go (descent s.information s.gradient) d
    where
      ended : (b : Bool) → f ≡ cond b (fitted s) unfitted → g ≡ row_place a f.params
      ended true k = fitted-at s e k h
      ended false k = unfitted-at k h

      go : (o : option.Option (List Float)) → f ≡ settled s o → g ≡ row_place a f.params
      go (option.Some x) k = ended (small x) k
      go option.None k = unfitted-at k h
