-- What is found with every fix, and the two theorems of demand 3. Assumes nothing.
use Rattle.std.proofs.Common.{◌≡◌, ℕ, ◌<◌, ◌≤◌, Bool, true, false, cond, not, T, List, replicate, ℤ, sym, refl, ap, ◌∙◌, subst, ap₂, arith}
use lib.Ieee.{Float, lt, le}
use Rattle.binary64.specs.Steps.{nought}
use Rattle.geo.specs.Geo.{from_ecef}
use Rattle.dense.specs.Entries.{nth}
use Rattle.dense.specs.Factor.{Factor, found, refused, cholesky}
use Rattle.sets.specs.Sets.{Subset, count}
use Rattle.sets.specs.Mask.{has, mask_of}
use Rattle.sets.proofs.Tests.{and_both}
use Rattle.sets.proofs.Masks.{set-of-mask}
use Rattle.screen.specs.Pair as pair
use Rattle.screen.proofs.Removal.{kept-below, kept-pass}
use Rattle.problem.specs.declared.Problem.{Problem}
use Rattle.problem.specs.Problem.{position, transmit_m, four, minimum, range}
use Rattle.whitening.specs.Whitened.{Chosen, residual, raw_row, whitened}
use Rattle.damped.specs.declared.Fit.{Fit}
use Rattle.limits.specs.Heights.{min_height_m, max_height_m}
use Rattle.best.specs.Plausible.{max_range_m}
use Rattle.best.specs.Best.{refuses, gives}
use Rattle.best.specs.OfProblem.{Receptions, receptions_of, whitener_over, chosen_over, starts_over}
use Rattle.best.specs.Meaning.{Plausible, IsBest, IsBestOver}
use Rattle.best.proofs.Over.{answered-over}
use Rattle.record.specs.declared.content.Fix.{Fix}
use Rattle.rounds.specs.declared.finish.Unpublished.TheVariants.{Uncertain, OutOfRange}
use Rattle.rounds.specs.Setting.{Answer, five, kept}
use Rattle.rounds.specs.Finish.{fits_i64, transmit_ps, certain, fix_of, inverted, finish}
use Rattle.rounds.specs.Solve.{limit_at, normalised, dof_of, setting_at, solve_problem}
use Rattle.rounds.specs.Later.{covariance_by, transmit, Published}
use Rattle.rounds.specs.Demand.{Fixed, Claim, rounds, remaining, used_by, params_by, Found, DemandMet, OneAnswer}
use Rattle.rounds.proofs.Clause.{Clause}
use Rattle.rounds.proofs.Chains.{all-kept, chain-within}
use Rattle.rounds.proofs.Claim.{claim, only}
use Rattle.rounds.proofs.Exact.{exact}

-- ---- a fix of `finish`

pub finish-fix
    : (mask dof : ℕ) (reference : ℤ) (fit : Fit) (x : Fix) → finish mask dof reference fit ≡ gives x
    → (l : List Float) × (ps : ℤ) × (x ≡ fix_of mask dof fit (covariance_by l) ps)
unfolding finish
finish-fix mask dof reference fit x e = go (cholesky fit.information 4 (replicate 16 nought)) e
  where
    tests : (a b : Bool) (c : List (List Float)) (ps : ℤ) → cond a (cond b (gives (fix_of mask dof fit c ps)) (refuses OutOfRange)) (refuses Uncertain)
        ≡ gives x → x ≡ fix_of mask dof fit c ps
    tests false b c ps q = absurd (let z : ◌≡◌ {A = ℕ} 0 1 = cc in omega arith)
    tests true false c ps q = absurd (let z : ◌≡◌ {A = ℕ} 0 1 = cc in omega arith)
    tests true true c ps q = cc

    go
        : (f : Factor) → inverted mask dof reference fit f ≡ gives x
        → (l : List Float) × (ps : ℤ) × (x ≡ fix_of mask dof fit (covariance_by l) ps)
    go (refused l) q = absurd (let z : ◌≡◌ {A = ℕ} 0 1 = cc in omega arith)
    go (found l) q =
        let c : List (List Float) = covariance_by l in
        let ps : ℤ = transmit_ps reference (transmit_m fit.params) in
        (l, ps, tests (certain c) (fits_i64 ps) c ps q)

-- ---- parameters by their four components
residual-shown : (R : Receptions) (params : List Float) (j : ℕ) → normalised R (four (nth params)) j ≡ normalised R params j
unfolding normalised residual
residual-shown R params j = refl

limit-shown : (C : Chosen) (d : ℕ) (params : List Float) → limit_at C d (four (nth params)) ≡ limit_at C d params
unfolding limit_at whitened raw_row residual
limit-shown C d params = refl

-- ---- found with every fix
module _ (P : Problem) (N : P.n ≤ 32) (x : Fix) (h : Fixed (rounds P) (remaining P) x) where
  abbrev R : Receptions
  R = receptions_of P

  abbrev S : Subset
  S = h.used

  abbrev f : Fit
  f = h.best

  abbrev past : Published R P.reference_ps S f x
  past = h.shown

  -- what the record shows is what was found
  shown : {A : Type 0} (part : Fix → A) → part x ≡ part
      (fix_of (mask_of S P.n) (dof_of R S) f (covariance_by past.m) (transmit P.reference_ps f))
  shown part = ap part past.shows

  within : (j : ℕ) → T (S j) → T (kept (rounds P) j)
  within = chain-within (rounds P) h.in_time.chain (all-kept (rounds P))

  kept-n : (j : ℕ) → T (kept (rounds P) j) → j < P.n
  kept-n = kept-below P.n (pair.fails P.time P.site_mm P.n)

  below-n : (j : ℕ) → T (S j) → j < P.n
  below-n j t = kept-n j (within j t)

  uses : used_by P x ≡ S
  uses = shown (λ y. has y.mask) ∙ set-of-mask S P.n below-n

  in-used : (j : ℕ) → T (used_by P x j) → T (S j)
  in-used j t = subst (λ (A : Subset). T (A j)) uses t

  best-is : (l : List Float) × (i : ℕ) × IsBestOver R S h.before f l i
  best-is = ((answered-over R S h.before).found N f).0 h.settled.fitted.best

  abbrev l : List Float
  l = best-is.0

  abbrev is-best : IsBestOver R S h.before f l best-is.1
  is-best = best-is.2

  flies : Plausible (chosen_over R S l) f
  flies = subst (Plausible (chosen_over R S l)) (sym is-best.best.from) is-best.best.leads.weighed.plausible

  same-factor : past.l ≡ l
  same-factor = inside past.l l (sym past.informed.consistent.whitens ∙ is-best.whitens)
    where
      inside : (a b : List Float) → found a ≡ found b → a ≡ b
      inside a b e = cc

  residual-is : (j : ℕ) → normalised R (params_by P x) j ≡ normalised R f.params j
  residual-is j = ap (λ (p : List Float). normalised R p j) (shown (params_by P)) ∙ residual-shown R f.params j

  ecef-is : x.ecef ≡ position f.params
  ecef-is = shown (λ y. y.ecef)

  height-is : x.position.height_m ≡ (from_ecef (position f.params)).height_m
  height-is = shown (λ y. y.position.height_m)

  limit_is : limit_at (chosen_over R (used_by P x) l) x.dof (params_by P x) ≡ limit_at (chosen_over R S past.l) (dof_of R S) f.params
  limit_is =
      ap (limit_at (chosen_over R (used_by P x) l) x.dof) (shown (params_by P))
      ∙ limit-shown (chosen_over R (used_by P x) l) x.dof f.params
      ∙ ap₂ (λ (A : Subset) (d : ℕ). limit_at (chosen_over R A l) d f.params) uses (shown (λ y. y.dof))
      ∙ ap (λ (w : List Float). limit_at (chosen_over R S w) (dof_of R S) f.params) (sym same-factor)

  -- ---- clause by clause
  abbrev Finding : Type 0
  Finding = Found P x h

  found-uses : Clause (λ (w : Finding). w.uses)
  found-uses = uses

  found-used-kept : Clause (λ (w : Finding). w.used_kept)
  found-used-kept j t = within j (in-used j t)

  found-enough : Clause (λ (w : Finding). w.enough)
  found-enough = subst (λ (A : Subset). minimum P.altitude ≤ count A P.n) (sym uses) h.settled.fitted.enough

  found-screened : Clause (λ (w : Finding). w.screened)
  found-screened i j s t = kept-pass P.time P.site_mm P.n i j s t

  found_within : Clause (λ (w : Finding). w.within)
  found_within j t =
      subst (λ (r : Float). T (le r five)) (sym (residual-is j)) (h.settled.none_above j (below-n j (in-used j t)) (in-used j t))

  found-beyond : Clause (λ (w : Finding). w.beyond)
  found-beyond j k t =
      subst (λ (r : Float). T (lt five r)) (sym (residual-is j))
      (h.settled.none_back j (kept-n j k) (and_both (kept (rounds P) j) (not (S j)) k (subst (λ (A : Subset). T (not (A j))) uses t)))

  found-near : Clause (λ (w : Finding). w.near)
  found-near j t =
      subst (λ (p : List Float). T (le (range P.site p j) max_range_m)) (sym ecef-is) (is-best.near j (below-n j (in-used j t)) (in-used j t))

  found-placed : Clause (λ (w : Finding). w.placed)
  found-placed = shown (λ y. y.position) ∙ ap from_ecef (sym ecef-is)

  found-above : Clause (λ (w : Finding). w.above)
  found-above = subst (λ (q : Float). T (le min_height_m q)) (sym height-is) flies.above

  found_below : Clause (λ (w : Finding). w.below)
  found_below = subst (λ (q : Float). T (le q max_height_m)) (sym height-is) flies.below

  found-freedom : Clause (λ (w : Finding). w.freedom)
  found-freedom = shown (λ y. y.dof) ∙ ap (dof_of R) (sym uses)

  found-shows : Clause (λ (w : Finding). w.shows)
  found-shows = (sym ecef-is, sym (shown (λ y. y.t)), sym (shown (λ y. y.chi2)))

  found-with : Found P x h
  found-with = record {
    uses = found-uses;
    used_kept = found-used-kept;
    enough = found-enough;
    screened = found-screened;
    within = found_within;
    beyond = found-beyond;
    near = found-near;
    placed = found-placed;
    above = found-above;
    below = found_below;
    freedom = found-freedom;
    factor = l;
    whitens = ap (whitener_over R) uses ∙ is-best.whitens;
    consistent = subst (λ (q : Float × Float). T (not (lt q.0 q.1))) (ap₂ (λ (u v : Float). (u, v)) (sym limit_is) (sym (shown (λ y. y.chi2))))
        past.informed.consistent.within;
    shows = found-shows;
    from = best-is.1;
    best = subst (λ (A : Subset). IsBest (chosen_over R A l) (starts_over R A h.before) f best-is.1) (sym uses) is-best.best;
  }

-- ---- the theorems
pub demand-met : DemandMet
unfolding solve_problem
demand-met P N = record { claim = claim (setting_at P) (remaining P) (exact P); found = λ x h. found-with P N x h }

-- the claim alone decides the answer
pub no-other : (P : Problem) (a : Answer Fix) → Claim (rounds P) (remaining P) a → a ≡ solve_problem P
unfolding solve_problem
no-other P = only (setting_at P) (remaining P) (exact P)

pub one_answer : OneAnswer
one_answer P a d = no-other P a d.claim
