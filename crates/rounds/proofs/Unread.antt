-- Two problems that are alike in what is kept have one answer, since no round and no later step reads anything else. Assumes nothing.
use Rattle.std.proofs.Common.{◌≡◌, ℕ, zero, suc, ◌+◌, ◌*◌, ◌≤◌, Bool, true, false, cond, T, ltb, ◌⊎◌, List, replicate, ℤ, refl, ap, ◌∙◌, ap₂, inl, inr, arith}
use mathlib.Core.Option.{Option, none, some}
use lib.Ieee.{Float, lt}
use Rattle.binary64.specs.Steps.{◌⊕◌, ◌⊖◌, ◌⊘◌, abs, nought}
use Rattle.binary64.specs.Root.{root}
use Rattle.dense.specs.Entries.{nth, at}
use Rattle.dense.specs.Factor.{Factor, found, refused}
use Rattle.sets.specs.Sets.{Subset, count}
use Rattle.sets.specs.Mask.{mask_of}
use Rattle.problem.specs.declared.Altitude.{Altitude}
use Rattle.problem.specs.declared.Problem.{Problem}
use Rattle.problem.specs.Problem.{transmit_m}
use Rattle.whitening.specs.Covariance.{sigma}
use Rattle.whitening.specs.Whitened.{range_at, residual}
use Rattle.whitening.specs.Held.{chosen}
use Rattle.damped.specs.declared.Fit.{Fit}
use Rattle.starts.specs.Starts.{starts_after}
use Rattle.best.specs.declared.Unfit.{Unfit}
use Rattle.best.specs.Best.{Outcome, refuses, gives, best, with_whitener}
use Rattle.best.specs.OfProblem.{Receptions, subset_sites, subset_z, whitener_over, best_fit_over}
use Rattle.best.specs.Held.{receptions}
use Rattle.record.specs.declared.content.Fix.{Fix}
use Rattle.rounds.specs.declared.finish.Unpublished.{Unpublished}
use Rattle.rounds.specs.declared.finish.Unpublished.TheVariants as unpublished
use Rattle.rounds.specs.Setting.{Answer, Setting, kept, survivors}
use Rattle.rounds.specs.Rounds.{Step, ends, changes, settles, closed, begun, round, answer_after, rounds_to, outlier_rounds}
use Rattle.rounds.specs.Finish.{finish}
use Rattle.rounds.specs.Solve.{limit_at, normalised, dof_of, tested, later, kept_at, setting_of, solve_problem}
use Rattle.rounds.specs.Unmoved.{RemovedUnread}
use Rattle.rounds.proofs.Choices.{Within}
use Rattle.rounds.proofs.Steps.{Says, round-says}
use Rattle.rounds.proofs.Chains.{all-kept, change-within}
use Rattle.rounds.proofs.Searches.{decided-same}
use Rattle.rounds.proofs.Members.{z-same, factor-same}

-- ---- two settings whose fits, residuals and later steps are equal over sets of kept receptions
module _ {Q F X : Type 0} (n : ℕ) (K : Subset) (least : ℕ) (params : F → Q)
    (b b' : Subset → Option Q → Outcome Unfit F) (r r' : F → ℕ → Float) (l l' : Subset → F → Outcome Unpublished X) where
  abbrev one : Setting Q F X
  one = record { n = n; kept = K; minimum = least; best_fit = b; params = params; residual = r; later = l }

  abbrev other : Setting Q F X
  other = record { n = n; kept = K; minimum = least; best_fit = b'; params = params; residual = r'; later = l' }

  module _ (B : (S : Subset) (p : Option Q) → Within one S → b S p ≡ b' S p) (R : (f : F) (j : ℕ) → T (K j) → r f j ≡ r' f j)
      (L : (S : Subset) (f : F) → Within one S → l S f ≡ l' S f) where
    begun-same : (S : Subset) → Within one S → (t : Bool) (o : Outcome Unfit F) → begun one S t o ≡ begun other S t o
    begun-same S W true o = refl
    begun-same S W false (refuses e) = refl
    begun-same S W false (gives f) = decided-same K S (r f) (r' f) n f (λ j h s. R f j (in_kept j s))
      where
        in_kept : (j : ℕ) → T (K j) ⊎ T (S j) → T (K j)
        in_kept j (inl t) = t
        in_kept j (inr t) = W j t

    round_same : (S : Subset) (p : Option Q) → Within one S → round one S p ≡ round other S p
    unfolding round
    round_same S p W = ap (begun one S (ltb (count S n) least)) (B S p W) ∙ begun-same S W (ltb (count S n) least) (b' S p)

    rounds-same : (m : ℕ) (S : Subset) (p : Option Q) → Within one S → rounds_to one m S p ≡ rounds_to other m S p
    unfolding rounds_to
    rounds-same zero S p W = refl
    rounds-same (suc m) S p W =
        go (round one S p) (round-says one S p W) (λ Z q v. rounds-same m Z q v) ∙ ap (answer_after other (λ Z q. rounds_to other m Z q) S)
        (round_same S p W)
      where
        go : (x : Step F) → Says one S p x → ((Z : Subset) (q : Option Q) → Within one Z → rounds_to one m Z q ≡ rounds_to other m Z q)
            → answer_after one (λ Z q. rounds_to one m Z q) S x ≡ answer_after other (λ Z q. rounds_to other m Z q) S x
        go (ends e) h rec = refl
        go (changes Z f) h rec = rec Z (some (params f)) (change-within one h W)
        go (settles f) h rec = ap closed (L S f W)

    solved-same : outlier_rounds one ≡ outlier_rounds other
    unfolding outlier_rounds
    solved-same = rounds-same (2 * survivors one + 2) (kept one) none (all-kept one)

-- ---- two problems that differ in z, noise and clock entries alone
module _ (site : List Float) (z y x w c d : List Float) (n : ℕ) (N : n ≤ 32) (altitude : Altitude) (K : Subset) (reference : ℤ) where
  abbrev A : Receptions
  A = receptions site z x c n altitude

  abbrev B : Receptions
  B = receptions site y w d n altitude

  module _ (Z : (i : ℕ) → T (K i) → nth z i ≡ nth y i) (X : (i : ℕ) → T (K i) → nth x i ≡ nth w i)
      (C : (i j : ℕ) → i ≤ j → T (K i) → T (K j) → at c n i j ≡ at d n i j) where
    module _ (S : Subset) (W : (j : ℕ) → T (S j) → T (K j)) where
      abbrev sites : List Float
      sites = subset_sites site n S

      times : subset_z z n S ≡ subset_z y n S
      times = z-same K S W n N z y Z

      factors : whitener_over A S ≡ whitener_over B S
      factors = factor-same K S W n N c d x w C X

      abbrev fitted : Bool → List Float → Factor → List Float → Outcome Unfit Fit
      fitted had p f t = with_whitener f (λ l. best (chosen (count S n) sites t l altitude) (starts_after had p sites t (count S n) altitude))

      best-same : (p : Option (List Float)) → best_fit_over A S p ≡ best_fit_over B S p
      unfolding best_fit_over
      best-same none = ap₂ (fitted false (replicate 4 nought)) factors times
      best-same (some p) = ap₂ (fitted true p) factors times

      tested-same : (fit : Fit) (f : Factor) → tested A reference S fit f ≡ tested B reference S fit f
      tested-same fit (refused l) = refl
      tested-same fit (found l) =
          ap (λ (t : List Float). cond (lt (limit_at (chosen (count S n) sites t l altitude) (dof_of A S) fit.params) fit.cost)
          (refuses unpublished.Inconsistent) (finish (mask_of S n) (dof_of A S) reference fit)) times

      later_same : (fit : Fit) → later A reference S fit ≡ later B reference S fit
      unfolding later
      later_same fit = ap (tested A reference S fit) factors ∙ tested-same fit (whitener_over B S)

    residual-same : (p : List Float) (i : ℕ) → T (K i) → normalised A p i ≡ normalised B p i
    unfolding normalised residual sigma
    residual-same p i t = ap₂ (λ (v s : Float). abs (v ⊖ transmit_m p ⊖ range_at site p i) ⊘ root s) (Z i t) (ap₂ ◌⊕◌ (C i i (omega arith) t t) (X i t))

    pub unread : outlier_rounds (setting_of A K reference) ≡ outlier_rounds (setting_of B K reference)
    unread = solved-same n K (setting_of A K reference).minimum (λ fit. fit.params) (λ S p. best_fit_over A S p) (λ S p. best_fit_over B S p)
        (λ fit i. normalised A fit.params i) (λ fit i. normalised B fit.params i)
        (λ S fit. later A reference S fit) (λ S fit. later B reference S fit)
        (λ S p W. best-same S W p) (λ f j t. residual-same f.params j t) (λ S f W. later_same S W f)

-- ---- two problems that are alike in what is kept
-- the answer by z, noise and clock entries of Q, and the rest as given
abbrev solved_as : Problem → ℕ → List ℤ → List ℤ → List Float → Altitude → ℤ → Answer Fix
solved_as Q n time mm site altitude reference =
    outlier_rounds (setting_of (receptions site Q.z Q.noise_m2 Q.clock_m2 n altitude) (kept_at time mm n) reference)

pub removed-unread : RemovedUnread
unfolding solve_problem
removed-unread P Q N a =
    unread P.site P.z Q.z P.noise_m2 Q.noise_m2 P.clock_m2 Q.clock_m2 P.n N P.altitude
    (kept_at P.time P.site_mm P.n) P.reference_ps a.z a.noise a.clock
    ∙ ap₂ (λ (n : ℕ) (t : List ℤ). solved_as Q n t P.site_mm P.site P.altitude P.reference_ps) a.n a.time
    ∙ ap₂ (λ (m : List ℤ) (s : List Float). solved_as Q Q.n Q.time m s P.altitude P.reference_ps) a.site_mm a.site
    ∙ ap₂ (solved_as Q Q.n Q.time Q.site_mm Q.site) a.altitude a.reference_ps
