-- `entry::reply_to` meets its contract: what the checks refuse is turned away, and what passes is a problem (`Replies`). Assumes nothing.
use borrow.Author.Rules.{rules}
use mathlib.Core.Path.{◌≡◌, refl, sym, ap, ◌∙◌}
use mir.Syntax.{w64}
use mir.Val.{to_z, of_z, SFits}
use mir.ValLaws.{to_z-of_z}
use native.Mathlib.Omega.{arith}
use Prim.Native.Nat.{ℕ}
use Rattle.receptions.specs.declared.Reception.{Reception}
use Rattle.inputs.specs.Faults.{passed}
use Rattle.inputs.specs.declared.Given.{Given}
use Rattle.inputs.specs.Inputs.{Inputs, inputs_of, check_inputs}
use Rattle.inputs.proofs.Order.{few}
use Rattle.rounds.specs.Solve.{solve_problem}
use Rattle.rounds.specs.Held.{as_answer}
use Rattle.rounds.proofs.Runs.{of-problem}
use Rattle.entry.specs.Reply.{reply}
use Rattle.entry.proofs.Replies.{many-away, came-whole, torn-or-whole, refused-reply, problem-reply}
use Rattle.entry.proofs.reply_to.Goals as goal

pub turned_away-requires : goal.turned_away-requires
turned_away-requires c =
    let lent : (ℕ → Reception) → Given → Inputs =
    λ at g. inputs_of c.args.whole c.args.n at g c.args.clock.now c.args.altitude.now c.args.reference.now in
    let check = c.check_inputs in
    many-away (lent c.requires.0 c.given-g.result) _
    (sym (check.ensures c.requires.0 c.requires.1) ∙ c.in-Err.is)

pub problem_of-p-requires : goal.problem_of-p-requires
problem_of-p-requires c =
    let lent : (ℕ → Reception) → Given → Inputs =
    λ at g. inputs_of c.args.whole c.args.n at g c.args.clock.now c.args.altitude.now c.args.reference.now in
    let check = c.check_inputs in
    let I = lent c.requires.0 c.given-g.result in
    let e : check_inputs I ≡ passed = sym (check.ensures c.requires.0 c.requires.1) ∙ c.in-Ok.is in
    (c.requires.0, (c.requires.1 (few I e), came-whole I e))

pub solve_lent-answer-requires : goal.solve_lent-answer-requires
solve_lent-answer-requires c =
    let lent : (ℕ → Reception) → Given → Inputs =
    λ at g. inputs_of c.args.whole c.args.n at g c.args.clock.now c.args.altitude.now c.args.reference.now in
    let check = c.check_inputs in
    let I = lent c.requires.0 c.given-g.result in
    let small = few I (sym (check.ensures c.requires.0 c.requires.1) ∙ c.in-Ok.is) in
    (c.problem_of-p.ensures c.requires.0 (c.requires.1 small)).in_domain.most

pub overflow_cast-n : goal.overflow_cast-n
overflow_cast-n c =
    let lent : (ℕ → Reception) → Given → Inputs =
    λ at g. inputs_of c.args.whole c.args.n at g c.args.clock.now c.args.altitude.now c.args.reference.now in
    let check = c.check_inputs in
    let I = lent c.requires.0 c.given-g.result in
    let h = few I (sym (check.ensures c.requires.0 c.requires.1) ∙ c.in-Ok.is) in
    record { fits = omega arith }

pub returns-in-Err : goal.returns-in-Err
returns-in-Err c = λ at held.
    let lent : (ℕ → Reception) → Given → Inputs =
    λ at g. inputs_of c.args.whole c.args.n at g c.args.clock.now c.args.altitude.now c.args.reference.now in
    let check = c.check_inputs in
    refused-reply (lent at c.given-g.result) check.result (check.ensures at held) c.turned_away.result _
    c.in-Err.is c.turned_away.ensures
    ∙ ap (λ (g : Given). reply (lent at g)) c.given-g.ensures

pub returns-in-Ok : goal.returns-in-Ok
returns-in-Ok c = λ at held.
    let lent : (ℕ → Reception) → Given → Inputs =
    λ at g. inputs_of c.args.whole c.args.n at g c.args.clock.now c.args.altitude.now c.args.reference.now in
    let check = c.check_inputs in
    let p = c.problem_of-p in
    let I = lent at c.given-g.result in
    let passes = c.in-Ok.is in
    let small = few I (sym (check.ensures at held) ∙ passes) in
    let f : SFits w64 p.result.reference_ps = search rules in
    let told = c.solve_lent-answer.ensures ∙ ap as_answer (of-problem p.result _ (to_z w64 (of_z w64 p.result.reference_ps)) refl (to_z-of_z w64 p.result.reference_ps f)) in
    problem-reply I check.result (check.ensures at held) c.answered.result p.result passes
    ((p.ensures at (held small)).problem ∙ torn-or-whole I) (c.answered.ensures (solve_problem p.result) told)
    ∙ ap (λ (g : Given). reply (lent at g)) c.given-g.ensures
