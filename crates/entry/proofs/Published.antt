-- What the record of every fix shows: what rounds proves of the fix is read back from its bytes, where `Stands` has it. In document 01's domain noise
-- is above 0, and no clock's variance below it. Assumes nothing.
use Rattle.std.proofs.Common.{Ok, Err}
use Prim.Native.Nat.{ℕ, zero, suc, ◌+◌, ◌*◌, ◌<◌, ◌≤◌}
use mathlib.Core.Path.{◌≡◌, refl, sym, ap, ap₂, subst, ◌∙◌}
use mathlib.Core.Bool.{Bool, true, false, not, ◌&&◌}
use mathlib.Core.Logic.{inl, inr}
use mathlib.Core.List.{List, [], ◌∷◌}
use mathlib.Core.Option.{Option, none, some}
use native.Mathlib.Omega.{arith}
use borrow.Author.Tests.{eq-eqb}
use lib.Dec.{T}
use lib.ListN.{replicate}
use lib.Ieee.{Float, nan, inf, fin, round, mul, lt, le, eq, is_nan, of_bits}
use lib.Ieee.Fits.{and_l}
use Rattle.binary64.specs.Steps.{decimal, nought, is_finite}
use Rattle.binary64.specs.Within.{Within}
use Rattle.binary64.proofs.Order.{holds}
use Rattle.binary64.proofs.Less.{lt-split, le-lt}
use Rattle.dense.specs.Entries.{nth, at}
use Rattle.dense.specs.Factor.{found, cholesky}
use Rattle.geo.specs.Meaning.{IsFinite}
use Rattle.limits.specs.Heights.{min_height_m, max_height_m}
use Rattle.limits.specs.Local.{entry}
use Rattle.words.specs.Words.{f64_at}
use Rattle.reader.specs.Rules.{Finite}
use Rattle.reader.specs.Stands.{Shows, Stands}
use Rattle.reader.proofs.Stood.{shown-is-read}
use Rattle.problem.specs.declared.Problem.{Problem}
use Rattle.receptions.specs.declared.Reception.{Reception}
use Rattle.inputs.specs.declared.Given.{Given}
use Rattle.inputs.specs.declared.Fault.{Fault}
use Rattle.inputs.specs.declared.Fault.TheVariants.{TornInput, TooMany, Disorder, BadField, ClockSize, Uncovered}
use Rattle.inputs.specs.Domain.{good_noise, good_entry}
use Rattle.inputs.specs.Faults.{Check, passed, number_of}
use Rattle.inputs.specs.InDomain.{InDomain}
use Rattle.inputs.specs.Inputs.{Inputs, check_inputs, problem_of}
use Rattle.inputs.proofs.Sound.{in-domain}
use Rattle.rounds.specs.declared.answer.Refusal.{Refusal}
use Rattle.rounds.specs.declared.answer.Refusal.TheVariants as why
use Rattle.rounds.specs.Setting.{Answer}
use Rattle.rounds.specs.Setting as answers
use Rattle.rounds.specs.Finish.{max_variance_m2, cholesky3}
use Rattle.rounds.specs.Mirrored.{covariance}
use Rattle.rounds.specs.Solve.{number, refusal_number, solve_problem}
use Rattle.rounds.proofs.Found.{demand-met}
use Rattle.rounds.proofs.Published.{Noisy, FiniteFix, fix-finite, fix-claimed, fix-on-earth, fix-chi2-up}
use Rattle.record.specs.declared.content.Fix.{Fix}
use Rattle.entry.specs.Reply.{record_of, replied, reply}
use Rattle.entry.proofs.Replies.{came-whole, torn-or-whole}
use Rattle.entry.proofs.Written.{small, shown, stands}

-- ---- what is read back from the record of a fix

-- the nine floats of its covariance, rows in order
abbrev covariance_at : List ℕ → List Float
covariance_at s =
    f64_at s 80 ∷ f64_at s 88 ∷ f64_at s 96
    ∷ f64_at s 104 ∷ f64_at s 112 ∷ f64_at s 120
    ∷ f64_at s 128 ∷ f64_at s 136 ∷ f64_at s 144 ∷ []

pub record Publishes (s : List ℕ) : Type 0 where
  -- ECEF, T and the position; the covariance
  pub places : (i : ℕ) → i < 7 → Finite s (16 + 8 * i)
  pub claims : (i : ℕ) → i < 9 → Finite s (80 + 8 * i)
  -- latitude within ±90 and longitude within ±180 degrees, height within the solve's limits
  pub lat : Within (decimal 90 0) (f64_at s 48)
  pub lon : Within (decimal 180 0) (f64_at s 56)
  pub above : T (le min_height_m (f64_at s 64))
  pub below : T (le (f64_at s 64) max_height_m)
  -- each variance is above 0 and at most 1,500²
  pub variances
      : (axis : ℕ) → axis < 3
      → T (lt nought (f64_at s (80 + 32 * axis))) × T (le (f64_at s (80 + 32 * axis)) (decimal 2250000 0))
  -- the covariance has a Cholesky factor
  pub definite : (l : List Float) × (cholesky (covariance_at s) 3 (replicate 9 nought) ≡ found l)
  -- chi-square is no less than 0
  pub chi2 : T (le nought (f64_at s 152))

abbrev pub ReplyPublishes : Type 0
ReplyPublishes = (I : Inputs) → (reply I).number ≡ 0 → Publishes (reply I).bytes

-- ---- document 01's domain, of all inputs that pass
abbrev given : Bool → Bool → Bool → Given
given c a r = record { clock = c; altitude = a; reference = r }

abbrev whole : ℕ → (ℕ → Reception) → Option (List ℕ) → Option (List ℕ) → Option (List ℕ) → Inputs
whole n at c a r = record { whole = true; n = n; at = at; clock = c; altitude = a; reference = r }

domain : (n : ℕ) (at : ℕ → Reception) (c a r : Option (List ℕ)) → check_inputs (whole n at c a r) ≡ passed → InDomain (problem_of (whole n at c a r))
domain n at none none none e = in-domain n at (given false false false) [] [] [] e
domain n at none none (some r) e = in-domain n at (given false false true) [] [] r e
domain n at none (some a) none e = in-domain n at (given false true false) [] a [] e
domain n at none (some a) (some r) e = in-domain n at (given false true true) [] a r e
domain n at (some c) none none e = in-domain n at (given true false false) c [] [] e
domain n at (some c) none (some r) e = in-domain n at (given true false true) c [] r e
domain n at (some c) (some a) none e = in-domain n at (given true true false) c a [] e
domain n at (some c) (some a) (some r) e = in-domain n at (given true true true) c a r e

pub passed-domain : (I : Inputs) → check_inputs I ≡ passed → InDomain (problem_of I)
passed-domain I e = subst InDomain (torn-or-whole I) (domain I.n I.at I.clock I.altitude I.reference (came-whole I e))

le_right : (x y : Float) → T (le x y) → T (not (is_nan y))
unfolding le lt eq is_nan
le_right x (inf s) h = tt
le_right x (fin s m e) h = tt
le_right nan nan h = h
le_right (inf s) nan h = h
le_right (fin s m e) nan h = h

noise-above : (x : Float) → good_noise x ≡ true → T (lt nought x)
unfolding good_noise round of_bits lt
noise-above x e =
    let lo = decimal 1 6 in
    let l : T (le lo x) = and_l (le lo x) (le x (decimal 1000000000000 0)) (holds _ e) in
    elim (lt-split nought x lo (le_right lo x l) tt) [ inl h ↦ h | inr h ↦ absurd (le-lt x lo l h) ]

diagonal-above : (j : ℕ) (x : Float) → good_entry j j x ≡ true → T (le nought x)
unfolding good_entry
diagonal-above j x e =
    let limit = decimal 1000000000000 0 in
    let t : (le nought x && le x limit) ≡ true = rw (eq-eqb j j refl) at e in
    and_l (le nought x) (le x limit) (holds _ t)

noisy : (P : Problem) → InDomain P → Noisy P
noisy P d j l = (
  diagonal-above j (at P.clock_m2 P.n j j) (d.clock j j (omega arith) l),
  noise-above (nth P.noise_m2 j) (d.noises j l),
)

-- ---- read back
variance-limit : max_variance_m2 ≡ decimal 2250000 0
unfolding max_variance_m2 round mul
variance-limit = refl

module _ (s : List ℕ) (k : ℕ) (v : Float) (i : IsFinite v) (h : Shows s k v) where
  back : f64_at s k ≡ v
  back = shown-is-read s k v i.0 h

  finite-at : Finite s k
  finite-at = ap is_finite back ∙ i.1

module _ (P : Problem) (N : P.n ≤ 32) (d : InDomain P) (x : Fix) (e : solve_problem P ≡ answers.fix x) (s : List ℕ)
    (h : Stands s P.n P.shown x) where
  f : FiniteFix x
  f = fix-finite P N (noisy P d) x e

  places : (i : ℕ) → i < 7 → Finite s (16 + 8 * i)
  places zero l = finite-at s 16 _ (f.ecef 0 (omega arith)) (h.ecef 0 (omega arith))
  places (suc zero) l = finite-at s 24 _ (f.ecef 1 (omega arith)) (h.ecef 1 (omega arith))
  places (suc (suc zero)) l = finite-at s 32 _ (f.ecef 2 (omega arith)) (h.ecef 2 (omega arith))
  places (suc (suc (suc zero))) l = finite-at s 40 _ f.t h.t
  places (suc (suc (suc (suc zero)))) l = finite-at s 48 _ f.lat h.lat
  places (suc (suc (suc (suc (suc zero))))) l = finite-at s 56 _ f.lon h.lon
  places (suc (suc (suc (suc (suc (suc zero)))))) l = finite-at s 64 _ f.height h.height
  places (suc (suc (suc (suc (suc (suc (suc i))))))) l = absurd (omega arith)

  claims : (i : ℕ) → i < 9 → Finite s (80 + 8 * i)
  claims zero l = finite-at s 80 _ (f.claims 0 0 (omega arith) (omega arith)) (h.r0 0 (omega arith))
  claims (suc zero) l = finite-at s 88 _ (f.claims 0 1 (omega arith) (omega arith)) (h.r0 1 (omega arith))
  claims (suc (suc zero)) l = finite-at s 96 _ (f.claims 0 2 (omega arith) (omega arith)) (h.r0 2 (omega arith))
  claims (suc (suc (suc zero))) l = finite-at s 104 _ (f.claims 1 0 (omega arith) (omega arith)) (h.r1 0 (omega arith))
  claims (suc (suc (suc (suc zero)))) l = finite-at s 112 _ (f.claims 1 1 (omega arith) (omega arith)) (h.r1 1 (omega arith))
  claims (suc (suc (suc (suc (suc zero))))) l = finite-at s 120 _ (f.claims 1 2 (omega arith) (omega arith)) (h.r1 2 (omega arith))
  claims (suc (suc (suc (suc (suc (suc zero)))))) l = finite-at s 128 _ (f.claims 2 0 (omega arith) (omega arith)) (h.r2 0 (omega arith))
  claims (suc (suc (suc (suc (suc (suc (suc zero))))))) l = finite-at s 136 _ (f.claims 2 1 (omega arith) (omega arith)) (h.r2 1 (omega arith))
  claims (suc (suc (suc (suc (suc (suc (suc (suc zero)))))))) l =
      finite-at s 144 _ (f.claims 2 2 (omega arith) (omega arith)) (h.r2 2 (omega arith))
  claims (suc (suc (suc (suc (suc (suc (suc (suc (suc i))))))))) l = absurd (omega arith)

  abbrev Claims : Float → Type 0
  Claims v = T (lt nought v) × T (le v (decimal 2250000 0))

  limited : (v : Float) → T (lt nought v) × T (le v max_variance_m2) → Claims v
  limited v t = (t.0, subst (λ (m : Float). T (le v m)) variance-limit t.1)

  variances : (axis : ℕ) → axis < 3 → Claims (f64_at s (80 + 32 * axis))
  variances zero l =
      subst Claims (sym (back s 80 _ (f.claims 0 0 l l) (h.r0 0 (omega arith)))) (limited _ (fix-claimed P N x e 0 l))
  variances (suc zero) l =
      subst Claims (sym (back s 112 _ (f.claims 1 1 l l) (h.r1 1 (omega arith)))) (limited _ (fix-claimed P N x e 1 l))
  variances (suc (suc zero)) l =
      subst Claims (sym (back s 144 _ (f.claims 2 2 l l) (h.r2 2 (omega arith)))) (limited _ (fix-claimed P N x e 2 l))
  variances (suc (suc (suc axis))) l = absurd (omega arith)

  definite : (l : List Float) × (cholesky (covariance_at s) 3 (replicate 9 nought) ≡ found l)
  definite =
      let certain = (((demand-met P N).claim.fixed x).0 e).shown.certain in
      let same = (((demand-met P N).claim.fixed x).0 e).shown.shows in (
        certain.factor,
        ap (λ (m : List Float). cholesky m 3 (replicate 9 nought)) claimed
            ∙ subst (λ (y : Fix). cholesky3 (covariance y) ≡ found certain.factor) (sym same) certain.definite,
      )
    where
      read : (k i j : ℕ) → i < 3 → j < 3 → Shows s k (entry (covariance x) i j) → f64_at s k ≡ entry (covariance x) i j
      read k i j p q t = back s k (entry (covariance x) i j) (f.claims i j p q) t

      claimed
          : covariance_at s
          ≡ entry (covariance x) 0 0 ∷ entry (covariance x) 0 1 ∷ entry (covariance x) 0 2
          ∷ entry (covariance x) 1 0 ∷ entry (covariance x) 1 1 ∷ entry (covariance x) 1 2
          ∷ entry (covariance x) 2 0 ∷ entry (covariance x) 2 1 ∷ entry (covariance x) 2 2 ∷ []
      claimed =
          ap₂ ◌∷◌ (read 80 0 0 (omega arith) (omega arith) (h.r0 0 (omega arith)))
          (ap₂ ◌∷◌ (read 88 0 1 (omega arith) (omega arith) (h.r0 1 (omega arith)))
          (ap₂ ◌∷◌ (read 96 0 2 (omega arith) (omega arith) (h.r0 2 (omega arith)))
          (ap₂ ◌∷◌ (read 104 1 0 (omega arith) (omega arith) (h.r1 0 (omega arith)))
          (ap₂ ◌∷◌ (read 112 1 1 (omega arith) (omega arith) (h.r1 1 (omega arith)))
          (ap₂ ◌∷◌ (read 120 1 2 (omega arith) (omega arith) (h.r1 2 (omega arith)))
          (ap₂ ◌∷◌ (read 128 2 0 (omega arith) (omega arith) (h.r2 0 (omega arith)))
          (ap₂ ◌∷◌ (read 136 2 1 (omega arith) (omega arith) (h.r2 1 (omega arith)))
          (ap₂ ◌∷◌ (read 144 2 2 (omega arith) (omega arith) (h.r2 2 (omega arith)))
          (refl)))))))))

  publishes : Publishes s
  publishes =
      let found = (demand-met P N).found x (((demand-met P N).claim.fixed x).0 e) in
      let o = fix-on-earth P N x e in
      let height = back s 64 x.position.height_m f.height h.height in
      record {
        places = places;
        claims = claims;
        lat = subst (Within (decimal 90 0)) (sym (back s 48 x.position.lat_deg f.lat h.lat)) o.0;
        lon = subst (Within (decimal 180 0)) (sym (back s 56 x.position.lon_deg f.lon h.lon)) o.1;
        above = subst (λ (v : Float). T (le min_height_m v)) (sym height) found.above;
        below = subst (λ (v : Float). T (le v max_height_m)) (sym height) found.below;
        variances = variances;
        definite = definite;
        chi2 = let c = fix-chi2-up P N x e in
            subst (λ (v : Float). T (le nought v)) (sym (shown-is-read s 152 x.chi2 c.0 h.chi2)) c.1;
      }

-- ---- the reply is a fix where its number is 0
fault-number : (fault : Fault) → number_of fault ≡ 0 → ⊥
fault-number TornInput e = omega arith
fault-number TooMany e = omega arith
fault-number (Disorder i) e = omega arith
fault-number (BadField place) e = omega arith
fault-number ClockSize e = omega arith
fault-number Uncovered e = omega arith

refusal-number : (r : Refusal) → refusal_number r ≡ 0 → ⊥
refusal-number (why.TooFew c) e = omega arith
refusal-number why.NoConvergence e = omega arith
refusal-number why.OutOfRange e = omega arith
refusal-number why.NoFixedPoint e = omega arith
refusal-number why.Inconsistent e = omega arith
refusal-number why.Singular e = omega arith
refusal-number why.Ambiguous e = omega arith
refusal-number why.Uncertain e = omega arith

module _ (I : Inputs) (passes : check_inputs I ≡ passed) where
  answer-publishes : (a : Answer Fix) → solve_problem (problem_of I) ≡ a → number a ≡ 0 → Publishes (reply I).bytes
  answer-publishes (answers.fix x) q z =
      let P = problem_of I in
      publishes P (small I passes) (passed-domain I passes) x q (reply I).bytes
      (subst (λ (t : List ℕ). Stands t P.n P.shown x) (sym (shown I passes ∙ ap (record_of P.n P.shown) q)) (stands I passes x q))
  answer-publishes (answers.refused e) q z = absurd (refusal-number e z)
  answer-publishes answers.no_fixed_point q z = absurd (omega arith)

pub reply-publishes : ReplyPublishes
unfolding reply
reply-publishes I z = go (check_inputs I) refl z
  where
    go : (k : Check) → check_inputs I ≡ k → (replied k I).number ≡ 0 → Publishes (reply I).bytes
    go (Err fault) e z = absurd (fault-number fault z)
    go (Ok _) e z = answer-publishes I e (solve_problem (problem_of I)) refl z
