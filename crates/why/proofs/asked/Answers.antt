-- `why::asked` meets its contract: what the checks refuse is turned away, and what passes is a problem (`Verdicts`). Assumes nothing.
use mathlib.Core.Path.{◌≡◌, sym, ap, ◌∙◌}
use Prim.Native.Nat.{ℕ}
use Rattle.receptions.specs.declared.Reception.{Reception}
use Rattle.receptions.specs.Held.{Holds}
use Rattle.inputs.specs.Faults.{passed}
use Rattle.inputs.specs.declared.Given.{Given}
use Rattle.inputs.specs.Inputs.{Inputs, inputs_of, check_inputs, problem_of}
use Rattle.inputs.proofs.Order.{few}
use Rattle.rounds.specs.Solve.{solve_problem}
use Rattle.entry.proofs.Replies.{came-whole, torn-or-whole}
use Rattle.why.specs.Why.{verdict, states}
use Rattle.why.proofs.Verdicts.{away-verdict, away-states, passed-verdict, passed-states}
use Rattle.why.proofs.asked.Goals as goal

pub problem_of-p-requires : goal.problem_of-p-requires
problem_of-p-requires c =
    let lent : (ℕ → Reception) → Given → Inputs =
    λ at g. inputs_of c.args.whole c.args.n at g c.args.clock.now c.args.altitude.now c.args.reference.now in
    let some = c.requires.0 in
    let I = lent some.0 c.given-g.result in
    let check = c.check_inputs in
    let e : check_inputs I ≡ passed = sym (check.ensures some.0 some.1) ∙ c.in-Ok.is in
    (some.0, (some.1 (few I e), came-whole I e))

pub solve_problem-answer-requires : goal.solve_problem-answer-requires
solve_problem-answer-requires c =
    let lent : (ℕ → Reception) → Given → Inputs =
    λ at g. inputs_of c.args.whole c.args.n at g c.args.clock.now c.args.altitude.now c.args.reference.now in
    let some = c.requires.0 in
    let I = lent some.0 c.given-g.result in
    let check = c.check_inputs in
    let small = few I (sym (check.ensures some.0 some.1) ∙ c.in-Ok.is) in
    (c.problem_of-p.ensures some.0 (some.1 small)).in_domain.most

pub explained-requires : goal.explained-requires
explained-requires c =
    let lent : (ℕ → Reception) → Given → Inputs =
    λ at g. inputs_of c.args.whole c.args.n at g c.args.clock.now c.args.altitude.now c.args.reference.now in
    let some = c.requires.0 in
    let I = lent some.0 c.given-g.result in
    let check = c.check_inputs in
    let small = few I (sym (check.ensures some.0 some.1) ∙ c.in-Ok.is) in
    ((c.problem_of-p.ensures some.0 (some.1 small)).in_domain.most, c.requires.1)

pub returns-in-Err : goal.returns-in-Err
returns-in-Err c =
    let lent : (ℕ → Reception) → Given → Inputs =
    λ at g. inputs_of c.args.whole c.args.n at g c.args.clock.now c.args.altitude.now c.args.reference.now in
    let check = c.check_inputs in
    let fault = c.in-Err.is in
    let number = c.number in
    let detail = c.detail in
    let I : (ℕ → Reception) → Inputs = λ (at : ℕ → Reception). lent at c.given-g.result in record {
      verdict = λ at held.
          away-verdict (I at) check.result (check.ensures at held) _ number.result detail.result fault number.ensures detail.ensures
          ∙ ap (λ (g : Given). verdict (lent at g)) c.given-g.ensures;
      states = λ at held.
          away-states (I at) check.result (check.ensures at held) _ c.args.out.now fault
          ∙ ap (λ (g : Given). states (lent at g) c.args.out.now) c.given-g.ensures;
    }

pub returns-in-Ok : goal.returns-in-Ok
returns-in-Ok c =
    let lent : (ℕ → Reception) → Given → Inputs =
    λ at g. inputs_of c.args.whole c.args.n at g c.args.clock.now c.args.altitude.now c.args.reference.now in
    let check = c.check_inputs in
    let p = c.problem_of-p in
    let passes = c.in-Ok.is in
    let solved = c.solve_problem-answer.ensures in
    let I : (ℕ → Reception) → Inputs = λ (at : ℕ → Reception). lent at c.given-g.result in
    let is : (at : ℕ → Reception) → Holds c.args.f c.args.n at → p.result ≡ problem_of (I at) =
    λ at held. (p.ensures at (held (few (I at) (sym (check.ensures at held) ∙ passes)))).problem ∙ torn-or-whole (I at) in record {
      verdict = λ at held.
          passed-verdict (I at) check.result (check.ensures at held) p.result passes (is at held) _ (c.explained.ensures.verdict (solve_problem p.result) solved)
          ∙ ap (λ (g : Given). verdict (lent at g)) c.given-g.ensures;
      states = λ at held.
          passed-states (I at) check.result (check.ensures at held) p.result passes (is at held) c.args.out.now _
          (c.explained.ensures.states (solve_problem p.result) solved)
          ∙ ap (λ (g : Given). states (lent at g) c.args.out.now) c.given-g.ensures;
    }
