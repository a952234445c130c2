-- What `finish` gives, by the tests that its code makes. Assumes nothing.
use Rattle.std.proofs.Common.{◌≡◌, ℕ, Bool, true, false, cond, List, replicate, ℤ, sym, refl, ap, ◌∙◌, arith}
use Rattle.std.specs.Prelude as std
use Rattle.std.specs.Prelude.{IsErrAnd}
use lib.Ieee.{Float}
use Rattle.binary64.specs.Steps.{nought}
use Rattle.dense.specs.Factor.{Factor, found, refused, cholesky}
use Rattle.dense.specs.Inverse.{inverse}
use Rattle.problem.specs.Problem.{transmit_m}
use Rattle.limits.specs.Local.{published}
use Rattle.damped.specs.declared.Fit.{Fit}
use Rattle.best.specs.Best.{Outcome, refuses, gives}
use Rattle.record.specs.declared.content.Fix.{Fix}
use Rattle.rounds.specs.declared.answer.Refusal.{Refusal}
use Rattle.rounds.specs.declared.finish.Unpublished.{Unpublished}
use Rattle.rounds.specs.declared.finish.Unpublished.TheVariants.{Singular, Uncertain, OutOfRange}
use Rattle.rounds.specs.Finish.{fits_i64, transmit_ps, certain, fix_of, shown, inverted, finish}
use Rattle.rounds.specs.Setting.{of_unpublished}
use Rattle.rounds.specs.Rounds.{closed}
use Rattle.rounds.specs.Held.{moment_of, as_result, as_answer}
use Rattle.rounds.proofs.Moments.{moment-held, moment-beyond}

module _ (mask dof : ℕ) (reference : ℤ) (fit : Fit) where
  abbrev time : ℤ
  time = transmit_ps reference (transmit_m fit.params)

  abbrev factored : Factor
  factored = cholesky fit.information 4 (replicate 16 nought)

  pub singular : (l : List Float) → refused l ≡ factored → refuses Singular ≡ finish mask dof reference fit
  unfolding finish
  singular l e = ap (inverted mask dof reference fit) e

  module _ (l : List Float) (c : List (List Float)) (e : found l ≡ factored) (C : c ≡ published (inverse l 4 (replicate 16 nought))) where
    finish-shows : shown mask dof fit c time ≡ finish mask dof reference fit
    unfolding finish
    finish-shows = ap (λ (x : List (List Float)). shown mask dof fit x time) C ∙ ap (inverted mask dof reference fit) e

    pub uncertain : certain c ≡ false → refuses Uncertain ≡ finish mask dof reference fit
    uncertain h = sym (ap (λ (t : Bool). cond t (cond (fits_i64 time) (gives (fix_of mask dof fit c time)) (refuses OutOfRange)) (refuses Uncertain)) h)
        ∙ finish-shows

    -- the covariance passes, and the transmit time is tested
    timed : (b : Bool) → certain c ≡ true → fits_i64 time ≡ b → cond b (gives (fix_of mask dof fit c time)) (refuses OutOfRange)
        ≡ finish mask dof reference fit
    timed b h k =
        sym (ap (λ (t : Bool). cond t (gives (fix_of mask dof fit c time)) (refuses OutOfRange)) k)
        ∙ sym (ap (λ (t : Bool). cond t (cond (fits_i64 time) (gives (fix_of mask dof fit c time)) (refuses OutOfRange)) (refuses Uncertain)) h) ∙
        finish-shows

    pub out-of-range : certain c ≡ true → ◌≡◌ {A = std.Option ℤ} std.None (moment_of time) → refuses OutOfRange ≡ finish mask dof reference fit
    out-of-range h m = timed false h (moment-beyond time m)

    pub gives-fix : certain c ≡ true → (ps : ℤ) → std.Some ps ≡ moment_of time → (x : Fix) → x ≡ fix_of mask dof fit c ps
        → gives x ≡ finish mask dof reference fit
    gives-fix h ps m x q =
        let t = moment-held time ps m in
        ap gives (q ∙ ap (fix_of mask dof fit c) t.1) ∙ timed true h t.0

-- ---- the transmit time, by what `ok_or` and `?` make of it
module _ {A E : Type 0} (late : E) where
  pub none-told : (m : std.Option A) (e : E) → std.Err e ≡ std.ok_or m late → (std.None ≡ m) × (e ≡ late)
  none-told std.None e h = (refl, cc)
  none-told (std.Some x) e h = absurd (let q : ◌≡◌ {A = ℕ} 0 1 = cc in omega arith)

  pub some-told : (m : std.Option A) (x : A) → std.Ok x ≡ std.ok_or m late → std.Some x ≡ m
  some-told std.None x h = absurd (let q : ◌≡◌ {A = ℕ} 0 1 = cc in omega arith)
  some-told (std.Some y) x h = cc

pub told-err : {X E : Type 0} (r : std.Result X E) (e : E) → IsErrAnd r (λ f. f ≡ e) → r ≡ std.Err e
told-err (std.Err f) e h = ap std.Err h
told-err (std.Ok x) e h = absurd h

-- ---- the answer once the rounds are settled, by what `?` makes of the later steps
pub closed-gives : (o : Outcome Unpublished Fix) (x : Fix) → ◌≡◌ {A = std.Result Fix Unpublished} (std.Ok x) (as_result o)
    → std.Ok x ≡ as_answer (closed o)
closed-gives (gives y) x e = let q : x ≡ y = cc in ap std.Ok q
closed-gives (refuses u) x e = absurd (let q : ◌≡◌ {A = ℕ} 0 1 = cc in omega arith)

pub closed-refuses : (o : Outcome Unpublished Fix) (u : Unpublished) (r : std.Result Fix Refusal)
    → ◌≡◌ {A = std.Result Fix Unpublished} (std.Err u) (as_result o) → IsErrAnd r (λ e. e ≡ of_unpublished u) → r ≡ as_answer (closed o)
closed-refuses (refuses v) u r e h = let q : u ≡ v = cc in told-err r (of_unpublished u) h ∙ ap (λ (w : Unpublished). std.Err (of_unpublished w)) q
closed-refuses (gives x) u r e h = absurd (let q : ◌≡◌ {A = ℕ} 0 1 = cc in omega arith)
