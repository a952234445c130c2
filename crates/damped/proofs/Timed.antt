-- A fit whose transmit time is no number has a cost that is none: then no residual is a number, and the first square of the cost is none. So a fit
-- whose cost is a number has a number for its transmit time. Assumes nothing.
use mathlib.Core.Path.{◌≡◌, refl, ap, subst, ◌∙◌}
use mathlib.Core.Logic.{◌≢◌}
use mathlib.Core.Bool.{not}
use mathlib.Core.List.{List}
use Prim.Native.Nat.{ℕ, zero, suc, ◌+◌, ◌≤◌, ◌<◌}
use native.Mathlib.Numerals.{add-one}
use native.Mathlib.Omega.{arith}
use lib.Dec.{T}
use lib.ListN.{length, set, replicate}
use lib.Seq.{get_or-set_same, get_or-set_other}
use lib.Ieee.{Float, nan, inf, fin, binary64, add, sub, div, is_nan}
use Rattle.binary64.specs.Steps.{◌⊕◌, ◌⊖◌, ◌⊗◌, ◌⊘◌, nought}
use Rattle.binary64.proofs.Numbers.{none-add}
use Rattle.dense.specs.Entries.{nth, at, minus_dots}
use Rattle.dense.specs.Solve.{forward_to, forward}
use Rattle.geo.specs.declared.Geodetic.{Geodetic}
use Rattle.geo.specs.Geo.{from_ecef}
use Rattle.problem.specs.declared.Altitude.{Altitude}
use Rattle.problem.specs.declared.Altitude.TheVariants.{None, Barometric, Gnss}
use Rattle.problem.specs.Problem.{position}
use Rattle.whitening.specs.Whitened.{Chosen, Rows, range_at, residual, raw_row, raw, fill_to, no_rows, push_altitude, whitened}
use Rattle.whitening.specs.Normal.{evaluated}
use Rattle.whitening.specs.Held.{cost_to}
use Rattle.whitening.proofs.Costs.{cost-is, fill-at, fill-length}
use Rattle.damped.specs.Damped.{candidate, levenberg_marquardt}
use Rattle.damped.proofs.Squares.{more-none}
use Rattle.damped.proofs.Kept.{fit-keeps}

-- ---- no number, step by step
sub-none : (x y : Float) → x ⊖ nan ⊖ y ≡ nan
unfolding sub add
sub-none nan y = refl
sub-none (inf s) y = refl
sub-none (fin s m e) y = refl

div-none : (y : Float) → nan ⊘ y ≡ nan
unfolding div
div-none y = refl

cost-none : (r : List Float) (i : ℕ) → nth r 0 ≡ nan → cost_to r (suc i) ≡ nan
unfolding cost_to
cost-none r zero e = more-none (cost_to r 0) (nth r 0) e
cost-none r (suc i) e = ap (λ (s : Float). s ⊕ nth r (suc i) ⊗ nth r (suc i)) (cost-none r i e) ∙ none-add binary64 (nth r (suc i) ⊗ nth r (suc i))

-- ---- the first residual, whitened
first-row : (l : List Float) (n : ℕ) (b : List Float) (i : ℕ) → 0 < length b → nth (forward_to l n b (suc i)) 0 ≡ nth b 0 ⊘ at l n 0 0
unfolding forward_to minus_dots
first-row l n b zero h = get_or-set_same b 0 (nth b 0 ⊘ at l n 0 0) nan h
first-row l n b (suc i) h =
    let other : 0 ≢ suc i = λ e. omega arith in
    get_or-set_other (forward_to l n b (suc i)) (suc i) 0 _ nan other ∙ first-row l n b i h

residual-none : (sites z p : List Float) (i : ℕ) → nth p 3 ≡ nan → residual sites z p i ≡ nan
unfolding residual
residual-none sites z p i e = ap (λ (t : Float). nth z i ⊖ t ⊖ range_at sites p i) e ∙ sub-none (nth z i) (range_at sites p i)

raw-none : (sites z p : List Float) (i : ℕ) → nth p 3 ≡ nan → raw sites z p 0 i ≡ nan
unfolding raw_row
raw-none sites z p i e = residual-none sites z p i e

column-none
    : (l sites z p : List Float) (k : ℕ) → 0 < k → k ≤ 33 → nth p 3 ≡ nan → nth (forward l k (fill_to no_rows (raw sites z p 0) k)) 0 ≡ nan
column-none l sites z p zero some few e = absurd (omega arith)
column-none l sites z p (suc k) some few e =
    let b = fill_to no_rows (raw sites z p 0) (suc k) in
    let room : length b ≡ 33 = fill-length (raw sites z p 0) no_rows (suc k) in
    first-row l (suc k) b k (omega (arith, room))
    ∙ ap (λ (v : Float). v ⊘ at l (suc k) 0 0) (fill-at (raw sites z p 0) no_rows (suc k) 0 few some ∙ raw-none sites z p 0 e)
    ∙ div-none (at l (suc k) 0 0)

-- the altitude's row comes after it
later : (r : List Float) (n : ℕ) (v : Float) → 0 < n → nth r 0 ≡ nan → cost_to (set r n v) (n + 1) ≡ nan
later r n v h e =
    let other : 0 ≢ n = λ q. omega arith in
    ap (cost_to (set r n v)) (add-one n) ∙ cost-none (set r n v) n (get_or-set_other r n 0 v nan other ∙ e)

pushed : (a : Altitude) (g : Geodetic) (w : Rows) → 0 < w.count → nth w.r 0 ≡ nan
    → cost_to (push_altitude a g w).r (push_altitude a g w).count ≡ nan
pushed None g w h e = whole w.r w.count h e
  where
    whole : (r : List Float) (n : ℕ) → 0 < n → nth r 0 ≡ nan → cost_to r n ≡ nan
    whole r zero h e = absurd (omega arith)
    whole r (suc n) h e = cost-none r n e
pushed (Barometric metres) g w h e = later w.r w.count _ h e
pushed (Gnss metres) g w h e = later w.r w.count _ h e

no-time : (C : Chosen) → 0 < C.k → C.k ≤ 33 → (p : List Float) → nth p 3 ≡ nan → (evaluated C p).cost ≡ nan
unfolding evaluated whitened
no-time C some few p e =
    cost-is (whitened C p) (whitened C p).count
    ∙ pushed C.altitude (from_ecef (position p)) _ some (column-none C.whitener C.sites C.z p C.k some few e)

-- ---- a fit
module _ (C : Chosen) (some : 0 < C.k) (few : C.k ≤ 33) where
  abbrev Untimed : List Float → Float → Type 0
  Untimed p cost = nth p 3 ≡ nan → cost ≡ nan

  zero-timed : Untimed (replicate 4 nought) nought
  zero-timed e = e

  number : (x : Float) → (x ≡ nan → ⊥) → T (not (is_nan x))
  unfolding is_nan
  number nan h = absurd (h refl)
  number (inf s) h = tt
  number (fin s m e) h = tt

  pub time-number
      : (start : List Float) → T (not (is_nan (levenberg_marquardt C start).cost)) → T (not (is_nan (nth (levenberg_marquardt C start).params 3)))
  unfolding is_nan
  time-number start h =
      number (nth (levenberg_marquardt C start).params 3)
      (λ e. subst (λ (v : Float). T (not (is_nan v)))
      (fit-keeps C Untimed (λ (q x : List Float). no-time C some few (candidate q x)) zero-timed start (no-time C some few start) e) h)
