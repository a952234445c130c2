-- The verdict and the states by their parts: of an answer, of inputs that are turned away, and of a problem. Assumes nothing.
use Rattle.std.proofs.Common.{Ok, Err}
use Prim.Native.Nat.{ℕ}
use Rattle.std.specs.Prelude as std
use mathlib.Core.Path.{◌≡◌, refl, ap, ap₂, sym, ◌∙◌}
use native.Mathlib.Omega.{arith}
use mathlib.Core.List.{List}
use Rattle.problem.specs.declared.Problem.{Problem}
use Rattle.inputs.specs.declared.Fault.{Fault}
use Rattle.inputs.specs.Faults.{Check, passed, number_of, detail_of}
use Rattle.inputs.specs.Inputs.{Inputs, check_inputs, problem_of}
use Rattle.record.specs.declared.content.Fix.{Fix}
use Rattle.rounds.specs.declared.answer.Refusal.{Refusal}
use Rattle.rounds.specs.declared.answer.Refusal.TheVariants.{NoFixedPoint}
use Rattle.rounds.specs.Setting.{Answer, fix, refused, no_fixed_point}
use Rattle.rounds.specs.Solve.{refusal_number, refusal_detail, solve_problem}
use Rattle.rounds.specs.Held.{as_answer}
use Rattle.why.specs.declared.Verdict.{Verdict}
use Rattle.why.specs.Why.{verdict_of, states_of, verdict_by, states_by, verdict, states}

abbrev pub made : ℕ → ℕ → Verdict
made k d = record { number = k; detail = d }

-- ---- of an answer, by what the code holds of it
module _ (a : Answer Fix) where
  pub fix-verdict : (x : Fix) → ◌≡◌ {A = std.Result Fix Refusal} (std.Ok x) (as_answer a) → made 0 x.dof ≡ verdict_of a
  fix-verdict x e = go a e
    where
      go : (a : Answer Fix) → ◌≡◌ {A = std.Result Fix Refusal} (std.Ok x) (as_answer a) → made 0 x.dof ≡ verdict_of a
      go (fix y) e = let q : x ≡ y = cc in ap (λ (u : Fix). made 0 u.dof) q
      go (refused why) e = absurd (let q : ◌≡◌ {A = ℕ} 0 1 = cc in omega arith)
      go no_fixed_point e = absurd (let q : ◌≡◌ {A = ℕ} 0 1 = cc in omega arith)

  pub fix-states : (x : Fix) (P : Problem) (out : List ℕ) → ◌≡◌ {A = std.Result Fix Refusal} (std.Ok x) (as_answer a)
      → states_of P (fix x) out ≡ states_of P a out
  fix-states x P out e = go a e
    where
      go : (a : Answer Fix) → ◌≡◌ {A = std.Result Fix Refusal} (std.Ok x) (as_answer a) → states_of P (fix x) out ≡ states_of P a out
      go (fix y) e = let q : x ≡ y = cc in ap (λ (u : Fix). states_of P (fix u) out) q
      go (refused why) e = absurd (let q : ◌≡◌ {A = ℕ} 0 1 = cc in omega arith)
      go no_fixed_point e = absurd (let q : ◌≡◌ {A = ℕ} 0 1 = cc in omega arith)

  pub refusal-verdict : (why : Refusal) (k d : ℕ) → ◌≡◌ {A = std.Result Fix Refusal} (std.Err why) (as_answer a) → k ≡ refusal_number why
      → d ≡ refusal_detail why → made k d ≡ verdict_of a
  refusal-verdict why k d e f g = ap₂ made f g ∙ go a e
    where
      go : (a : Answer Fix) → ◌≡◌ {A = std.Result Fix Refusal} (std.Err why) (as_answer a) → made (refusal_number why) (refusal_detail why)
          ≡ verdict_of a
      go (fix y) e = absurd (let q : ◌≡◌ {A = ℕ} 0 1 = cc in omega arith)
      go (refused w) e = let q : why ≡ w = cc in ap (λ (u : Refusal). made (refusal_number u) (refusal_detail u)) q
      go no_fixed_point e = let q : why ≡ NoFixedPoint = cc in ap (λ (u : Refusal). made (refusal_number u) (refusal_detail u)) q

  pub refusal-states : (why : Refusal) (P : Problem) (out : List ℕ) → ◌≡◌ {A = std.Result Fix Refusal} (std.Err why) (as_answer a)
      → out ≡ states_of P a out
  refusal-states why P out e = go a e
    where
      go : (a : Answer Fix) → ◌≡◌ {A = std.Result Fix Refusal} (std.Err why) (as_answer a) → out ≡ states_of P a out
      go (fix y) e = absurd (let q : ◌≡◌ {A = ℕ} 0 1 = cc in omega arith)
      go (refused w) e = refl
      go no_fixed_point e = refl

-- ---- of the inputs
module _ (I : Inputs) (k : Check) (K : k ≡ check_inputs I) where
  pub away-verdict : (fault : Fault) (n d : ℕ) → k ≡ Err fault → n ≡ number_of fault → d ≡ detail_of fault → made n d ≡ verdict I
  unfolding verdict
  away-verdict fault n d e f g = ap₂ made f g ∙ ap (λ (c : Check). verdict_by c I) (sym e ∙ K)

  pub away-states : (fault : Fault) (out : List ℕ) → k ≡ Err fault → out ≡ states I out
  unfolding states
  away-states fault out e = ap (λ (c : Check). states_by c I out) (sym e ∙ K)

  module _ (p : Problem) (e : k ≡ passed) (P : p ≡ problem_of I) where
    pub passed-verdict : (v : Verdict) → v ≡ verdict_of (solve_problem p) → v ≡ verdict I
    unfolding verdict
    passed-verdict v h = h ∙ ap (λ (q : Problem). verdict_of (solve_problem q)) P ∙ ap (λ (c : Check). verdict_by c I) (sym e ∙ K)

    pub passed-states : (out after : List ℕ) → after ≡ states_of p (solve_problem p) out → after ≡ states I out
    unfolding states
    passed-states out after h = h ∙ ap (λ (q : Problem). states_of q (solve_problem q) out) P ∙ ap (λ (c : Check). states_by c I out) (sym e ∙ K)
