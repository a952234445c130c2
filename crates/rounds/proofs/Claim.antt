-- The claim of demand 3 holds of the computation's answer, and of no other. Assumes nothing.
use Rattle.std.proofs.Common.{◌≡◌, ℕ, suc, ◌+◌, ◌-◌, ◌*◌, sym, refl, ap, ◌∙◌, subst, arith}
use mathlib.Core.Option.{Option, none}
use Rattle.sets.specs.Sets.{Subset}
use Rattle.best.specs.Best.{Outcome, refuses, gives}
use Rattle.rounds.specs.declared.answer.Refusal.{Refusal}
use Rattle.rounds.specs.declared.finish.Unpublished.{Unpublished}
use Rattle.rounds.specs.Setting.{of_unpublished, Answer, fix, refused, no_fixed_point, Setting, kept, survivors}
use Rattle.rounds.specs.Rounds.{closed, rounds_to, outlier_rounds}
use Rattle.rounds.specs.Demand.{Settled, Ends, InTime, EachChanged, Remaining, Fixed, Refused, early, late, Claim, Exactly}
use Rattle.rounds.proofs.Clause.{Clause}
use Rattle.rounds.proofs.Chains.{all-kept, chain-within, after-chain, after-settled, after-end, Run, ended, settled, never, run}

module _ {Q F X : Type 0} (P : Setting Q F X) where
  abbrev cap : ℕ
  cap = 2 * survivors P + 2

  -- ---- the three kinds of answer are apart

  closed-fix : (x : X) (o : Outcome Unpublished X) → closed o ≡ fix x → o ≡ gives x
  closed-fix x (refuses e) h = absurd (let z : ◌≡◌ {A = ℕ} 0 1 = cc in omega arith)
  closed-fix x (gives y) h = cc

  closed-refused : (e : Refusal) (o : Outcome Unpublished X) → closed o ≡ refused e → (t : Unpublished) × (o ≡ refuses t) × (e ≡ of_unpublished t)
  closed-refused e (refuses t) h = (t, refl, cc)
  closed-refused e (gives y) h = absurd (let z : ◌≡◌ {A = ℕ} 0 1 = cc in omega arith)

  pub closed-never : (o : Outcome Unpublished X) → closed o ≡ no_fixed_point → ⊥
  closed-never (refuses e) h = let z : ◌≡◌ {A = ℕ} 0 1 = cc in omega arith
  closed-never (gives y) h = let z : ◌≡◌ {A = ℕ} 0 1 = cc in omega arith

-- the remaining steps come to what L says of them
module _ {Q F X : Type 0} (P : Setting Q F X) (L : Remaining F X) (exact : Exactly P L) where
  -- ---- from the answer to the rounds
  module _ (a : Answer X) where
    fixed_of : (x : X) → a ≡ fix x → Run P (cap P) (kept P) none a → Fixed P L x
    fixed_of x h (ended k e l s w q) = absurd (let z : ◌≡◌ {A = ℕ} 0 1 = cc in omega arith)
    fixed_of x h (never s q) = absurd (let z : ◌≡◌ {A = ℕ} 0 1 = cc in omega arith)
    fixed_of x h (settled {E = E} {q = p} k f l s w q) =
        record {
          used = E;
          before = p;
          in_time = record { changes = k; most = omega arith; chain = s };
          best = f;
          settled = w;
          shown = (exact.shows E f x).0 (closed-fix P x (P.later E f) (sym q ∙ h));
        }

    refused-of : (e : Refusal) → a ≡ refused e → Run P (cap P) (kept P) none a → Refused P L e
    refused-of e h (ended {E = E} {q = p} k d l s w q) =
        let c : d ≡ e = cc in
        early E p e (record { changes = k; most = omega arith; chain = s }) (rw c at w)
    refused-of e h (never s q) = absurd (let z : ◌≡◌ {A = ℕ} 0 1 = cc in omega arith)
    refused-of e h (settled {E = E} {q = p} k f l s w q) =
        let c = closed-refused P e (P.later E f) (sym q ∙ h) in
        subst (Refused P L) (sym c.2)
        (late E p f c.0 (record { changes = k; most = omega arith; chain = s }) w ((exact.withholds E f c.0).0 c.1))

    unfixed-of : a ≡ no_fixed_point → Run P (cap P) (kept P) none a → EachChanged P (cap P)
    unfixed-of h (ended k e l s w q) = absurd (let z : ◌≡◌ {A = ℕ} 0 1 = cc in omega arith)
    unfixed-of h (never {E = E} {q = p} s q) = (E, p, s)
    unfixed-of h (settled {E = E} k f l s w q) = absurd (closed-never P (P.later E f) (sym q ∙ h))

  -- ---- from the rounds to the answer
  settles : (S : Subset) (p : Option Q) (f : F) → InTime P S p → Settled P S p f → outlier_rounds P ≡ closed (P.later S f)
  unfolding outlier_rounds
  settles S p f t h = after-chain P t.chain (all-kept P) (cap P) (suc (cap P - suc t.changes)) (omega (arith, t.most))
      ∙ after-settled P S p f (cap P - suc t.changes) (chain-within P t.chain (all-kept P)) h

  ends : (S : Subset) (p : Option Q) (e : Refusal) → InTime P S p → Ends P S p e → outlier_rounds P ≡ refused e
  unfolding outlier_rounds
  ends S p e t h = after-chain P t.chain (all-kept P) (cap P) (suc (cap P - suc t.changes)) (omega (arith, t.most))
      ∙ after-end P S p e (cap P - suc t.changes) (chain-within P t.chain (all-kept P)) h

  of-fixed : (x : X) → Fixed P L x → outlier_rounds P ≡ fix x
  of-fixed x h = settles h.used h.before h.best h.in_time h.settled ∙ ap (closed) ((exact.shows h.used h.best x).1 h.shown)

  of-refused : (e : Refusal) → Refused P L e → outlier_rounds P ≡ refused e
  of-refused e (early S p d t w) = ends S p d t w
  of-refused e (late S p f u t w r) = settles S p f t w ∙ ap (closed) ((exact.withholds S f u).1 r)

  of-unfixed : EachChanged P (cap P) → outlier_rounds P ≡ no_fixed_point
  unfolding outlier_rounds rounds_to
  of-unfixed h = after-chain P h.2 (all-kept P) (cap P) 0 (omega arith)

  solved-run : Run P (cap P) (kept P) none (outlier_rounds P)
  unfolding outlier_rounds
  solved-run = run P (cap P) (kept P) none (all-kept P)

  -- ---- the claim holds of the computation's answer
  abbrev Claimed : Type 0
  Claimed = Claim P L (outlier_rounds P)

  claim-fixed : Clause (λ (c : Claimed). c.fixed)
  claim-fixed x = ((λ e. fixed_of (outlier_rounds P) x e solved-run), of-fixed x)

  claim-refusals : Clause (λ (c : Claimed). c.refusals)
  claim-refusals e = ((λ q. refused-of (outlier_rounds P) e q solved-run), of-refused e)

  claim-unfixed : Clause (λ (c : Claimed). c.unfixed)
  claim-unfixed = ((λ q. unfixed-of (outlier_rounds P) q solved-run), of-unfixed)

  pub claim : Claim P L (outlier_rounds P)
  claim = record { fixed = claim-fixed; refusals = claim-refusals; unfixed = claim-unfixed }

  -- and of no other
  pub only : (a : Answer X) → Claim P L a → a ≡ outlier_rounds P
  only (fix x) c = sym ((claim.fixed x).1 ((c.fixed x).0 refl))
  only (refused e) c = sym ((claim.refusals e).1 ((c.refusals e).0 refl))
  only no_fixed_point c = sym (claim.unfixed.1 (c.unfixed.0 refl))
