-- What every answer shows: a mask within n and the degrees of freedom that it stands for, and too few that are too few. Assumes
-- nothing.
use Rattle.std.proofs.Common.{◌≡◌, ℕ, ◌+◌, ◌^◌, ◌<◌, ◌≤◌, cond, List, sym, refl, ap, ◌∙◌, subst, arith}
use mathlib.Core.Option.{Option}
use lib.Ieee.{Float}
use Rattle.sets.specs.Sets.{Subset, count}
use Rattle.sets.specs.Mask.{has}
use Rattle.sets.proofs.Masks.{mask_lt, count-within}
use Rattle.problem.specs.declared.Altitude.{Altitude}
use Rattle.problem.specs.declared.Altitude.TheVariants.{None, Barometric, Gnss}
use Rattle.problem.specs.declared.Problem.{Problem}
use Rattle.problem.specs.Problem.{minimum}
use Rattle.limits.specs.Limits.{dof}
use Rattle.best.specs.declared.Unfit.{Unfit}
use Rattle.best.specs.declared.Unfit.TheVariants as unfit
use Rattle.record.specs.declared.content.Fix.{Fix}
use Rattle.rounds.specs.declared.answer.Refusal.{Refusal}
use Rattle.rounds.specs.declared.answer.Refusal.TheVariants.{TooFew}
use Rattle.rounds.specs.declared.finish.Unpublished.{Unpublished}
use Rattle.rounds.specs.declared.finish.Unpublished.TheVariants as unpublished
use Rattle.rounds.specs.Setting.{fix, refused, of_unfit, of_unpublished}
use Rattle.rounds.specs.Solve.{has_altitude, solve_problem}
use Rattle.rounds.specs.Demand.{Fixed, Ends, Refused, early, late, few, unnumbered, Found, rounds, remaining}
use Rattle.rounds.specs.Demand as demand
use Rattle.rounds.proofs.Found.{demand-met}

minimum-le : (a : Altitude) → minimum a ≤ 4
minimum-le None = omega arith
minimum-le (Barometric m) = omega arith
minimum-le (Gnss m) = omega arith

-- where enough are used, nothing is cut off
degrees : (a : Altitude) (used : ℕ) → minimum a ≤ used → dof used (has_altitude a) + 4 ≡ used + cond (has_altitude a) 1 0
degrees None used h = omega arith
degrees (Barometric m) used h = omega arith
degrees (Gnss m) used h = omega arith

no-unfit : (c : ℕ) (u : Unfit) → TooFew c ≡ of_unfit u → ⊥
no-unfit c unfit.NoConvergence e = let z : ◌≡◌ {A = ℕ} 0 1 = cc in omega arith
no-unfit c unfit.OutOfRange e = let z : ◌≡◌ {A = ℕ} 0 1 = cc in omega arith
no-unfit c unfit.Ambiguous e = let z : ◌≡◌ {A = ℕ} 0 1 = cc in omega arith
no-unfit c unfit.Singular e = let z : ◌≡◌ {A = ℕ} 0 1 = cc in omega arith

no-unpublished : (c : ℕ) (u : Unpublished) → TooFew c ≡ of_unpublished u → ⊥
no-unpublished c unpublished.Inconsistent e = let z : ◌≡◌ {A = ℕ} 0 1 = cc in omega arith
no-unpublished c unpublished.Singular e = let z : ◌≡◌ {A = ℕ} 0 1 = cc in omega arith
no-unpublished c unpublished.Uncertain e = let z : ◌≡◌ {A = ℕ} 0 1 = cc in omega arith
no-unpublished c unpublished.OutOfRange e = let z : ◌≡◌ {A = ℕ} 0 1 = cc in omega arith

same_count : (c d : ℕ) → TooFew c ≡ TooFew d → c ≡ d
same_count c d e = cc

module _ (P : Problem) (N : P.n ≤ 32) where
  module _ (x : Fix) (e : solve_problem P ≡ fix x) where
    fixed : Fixed (rounds P) (remaining P) x
    fixed = ((demand-met P N).claim.fixed x).0 e

    pub fix-mask : x.mask < 2 ^ P.n
    fix-mask =
        subst (λ (m : ℕ). m < 2 ^ P.n) (sym (ap (λ (y : Fix). y.mask) fixed.shown.shows)) (mask_lt fixed.used P.n)

    pub fix-dof : x.dof + 4 ≡ count (has x.mask) 32 + cond (has_altitude P.altitude) 1 0
    fix-dof =
        let f : Found P x fixed = (demand-met P N).found x fixed in
        ap (λ (d : ℕ). d + 4) f.freedom
        ∙ degrees P.altitude (count (has x.mask) P.n) f.enough
        ∙ ap (λ (c : ℕ). c + cond (has_altitude P.altitude) 1 0) (sym (count-within P.n x.mask fix-mask N))

  pub too-few : (c : ℕ) → solve_problem P ≡ refused (TooFew c) → c ≤ 3
  too-few c e = go (TooFew c) (((demand-met P N).claim.refusals (TooFew c)).0 e) refl
    where
      ended : (S : Subset) (p : Option (List Float)) (r : Refusal) → Ends (rounds P) S p r → TooFew c ≡ r → c ≤ 3
      ended S p r (few h) q = let z : c ≡ count S P.n = same_count c (count S P.n) q in omega (arith, minimum-le P.altitude)
      ended S p r (demand.unfit u m b) q = absurd (no-unfit c u q)
      ended S p r (unnumbered f j m b l k n) q = absurd (let z : ◌≡◌ {A = ℕ} 0 1 = cc in omega arith)

      go : (r : Refusal) → Refused (rounds P) (remaining P) r → TooFew c ≡ r → c ≤ 3
      go r (early S p d t h) q = ended S p d h q
      go r (late S p f u t s l) q = absurd (no-unpublished c u q)
