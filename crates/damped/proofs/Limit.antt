-- A cost whose part lies above a limit is not better than the limit. Assumes nothing.
use mathlib.Core.Path.{◌≡◌, refl, sym, ap, subst, ◌∙◌}
use mathlib.Core.Logic.{◌⊎◌, inl, inr}
use mathlib.Core.Bool.{Bool, true, false, not}
use mathlib.Core.List.{List}
use Prim.Native.Nat.{◌≤◌, ◌<◌}
use native.Mathlib.Omega.{arith}
use lib.Dec.{T}
use lib.ListN.{length}
use lib.Ieee.Bits.{is_true}
use lib.Ieee.{Float, binary64, nan, inf, fin, lt, le, is_nan, fits}
use Rattle.binary64.specs.Steps.{◌⊕◌, ◌⊗◌, is_finite}
use Rattle.sets.proofs.Tests.{and_l, and_r}
use Rattle.geo.specs.declared.Geodetic.{Geodetic}
use Rattle.problem.specs.declared.Altitude.{Altitude}
use Rattle.problem.specs.declared.Altitude.TheVariants.{None, Barometric, Gnss}
use Rattle.whitening.specs.Whitened.{Chosen, Rows, no_rows, raw, push_altitude, whitened}
use Rattle.whitening.specs.Normal.{evaluated}
use Rattle.whitening.specs.Held.{column_over, cost_to}
use Rattle.whitening.proofs.Joined.{received}
use Rattle.whitening.proofs.Over.{Alike, column-alike, cost-alike}
use Rattle.whitening.proofs.Costs.{cost-is, cost-more, room-left}
use Rattle.whitening.specs.declared.Equations.{Equations}
use Rattle.damped.specs.declared.Lm.{Lm}
use Rattle.damped.specs.declared.Stepped.{Stepped}
use Rattle.damped.specs.Damped.{better, accepted, rejected, tried}
use Rattle.binary64.proofs.Less.{lt-split, lt-right, le-lt}
use Rattle.binary64.proofs.Clear.{clear, square-clear}
use Rattle.damped.proofs.Squares.{more-none, cost-clear, cost-fits, grows}

refuted : (b : Bool) → (T b → ⊥) → b ≡ false
refuted true h = absurd (h tt)
refuted false h = refl

finite_number : (x : Float) → T (is_finite x) → T (not (is_nan x))
unfolding is_finite is_nan
finite_number nan h = h
finite_number (inf s) h = tt
finite_number (fin s m e) h = tt

-- `better` and `lt`, the other way round
alone : (s limit : Float) → T (lt limit s) → better s limit ≡ false
unfolding better
alone s limit h = refuted (better s limit) (λ b. le-lt limit s (and_r (is_finite s) (le s limit) b) h)

no-better : (limit : Float) → better nan limit ≡ false
unfolding better is_finite
no-better limit = refl

more : (s x limit : Float) → T (fits binary64 s) → T (clear s) ⊎ (s ≡ nan) → T (lt limit s) → better (s ⊕ x ⊗ x) limit ≡ false
unfolding better is_nan
more s x limit f (inr e) h = absurd (subst (λ (v : Float). T (not (is_nan v))) e (lt-right limit s h))
more s x limit f (inl c) h = go (square-clear binary64 x)
  where
    next : Float
    next = s ⊕ x ⊗ x

    go : T (clear (x ⊗ x)) ⊎ (x ≡ nan) → better next limit ≡ false
    go (inr e) = ap (λ (v : Float). better v limit) (more-none s x e) ∙ no-better limit
    go (inl d) = refuted (better next limit) (λ b.
        let finite = and_l (is_finite next) (le next limit) b in
        elim (lt-split limit next s (finite_number next finite) h) [
          | inl k ↦ le-lt limit next (and_r (is_finite next) (le next limit) b) k
          | inr k ↦ le-lt next s (grows s (x ⊗ x) f c d (is_true (is_finite next) finite)) k
        ])

-- the altitude's row adds a square, or there is none
pushed : (altitude : Altitude) (g : Geodetic) (w : Rows) (limit : Float) → w.count < length w.r → T (lt limit (cost_to w.r w.count))
    → better (cost_to (push_altitude altitude g w).r (push_altitude altitude g w).count) limit ≡ false
pushed None g w limit l h = alone (cost_to w.r w.count) limit h
pushed (Barometric metres) g w limit l h = rw (← cost-more w.r w.count _ (cost_to w.r w.count) l refl)
    (more _ _ limit (cost-fits w.r w.count) (cost-clear w.r w.count) h)
pushed (Gnss metres) g w limit l h = rw (← cost-more w.r w.count _ (cost_to w.r w.count) l refl)
    (more _ _ limit (cost-fits w.r w.count) (cost-clear w.r w.count) h)

-- a step whose receptions alone cost more is not taken
pub above : (P : Chosen) (p : List Float) (held r : List Float) (part limit : Float) → P.k ≤ 32 → length held ≡ 33 → r ≡ column_over P p 0 held
    → part ≡ cost_to r P.k → lt limit part ≡ true → better (evaluated P p).cost limit ≡ false
unfolding evaluated whitened
above P p held r part limit k room e f h =
    let w = received P p in
    let like : Alike P.k r w.r = rw e (column-alike P p k 0 held room) in
    let same : cost_to r P.k ≡ cost_to w.r P.k = cost-alike r w.r P.k like P.k (omega arith) in
    let long : length w.r ≡ 33 = room-left P.whitener (raw P.sites P.z p 0) no_rows P.k P.k in
    let high : T (lt limit (cost_to w.r P.k)) =
    subst T (sym (ap (λ (v : Float). lt limit v) (sym (f ∙ same)) ∙ h)) tt in
    ap (λ (v : Float). better v limit) (cost-is (whitened P p) (whitened P p).count) ∙ pushed P.altitude _ w limit (omega (arith, long)) high

-- ---- what a step gives that is tried
module _ (P : Chosen) (s : Lm) (x p : List Float) (t : Stepped) where
  pub at_once : better (evaluated P p).cost s.cost ≡ false → t ≡ rejected s → t ≡ tried P s x p
  at_once f h = rw (f, h)

  module _ (cost : Float) (b : Bool) (e : cost ≡ (evaluated P p).cost) (f : b ≡ better cost s.cost) where
    verdict : b ≡ better (evaluated P p).cost s.cost
    verdict = f ∙ ap (λ (v : Float). better v s.cost) e

    pub taken : b ≡ true → (next : Equations) → next ≡ evaluated P p → t ≡ accepted s.lambda x p next → t ≡ tried P s x p
    taken g next n h = rw (← verdict, g) (h ∙ ap (λ (q : Equations). accepted s.lambda x p q) n)

    pub left : b ≡ false → t ≡ rejected s → t ≡ tried P s x p
    left g h = rw (← verdict, g) h
