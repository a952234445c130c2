-- Demand 3 holds of the bytes that are written, and with it the promise of a solve. Assumes nothing.
use Prim.Native.Nat.{ℕ, ◌^◌, ◌≤◌, ◌<◌}
use mathlib.Core.Path.{◌≡◌, sym, ap, subst, ◌∙◌}
use mathlib.Core.List.{List}
use native.Mathlib.Omega.{arith}
use native.Mathlib.Nat.{lt_of_lt_of_le}
use borrow.Author.Tests.{lt-ltb, le-ltb}
use mir.Syntax.{w64}
use mir.Val.{SFits}
use lib.Pow.{pow_mono}
use lib.ListN.{length, take, drop}
use lib.Seq.{take_at}
use Rattle.inputs.specs.Faults.{Check, passed}
use Rattle.inputs.specs.Inputs.{Inputs, check_inputs, problem_of}
use Rattle.inputs.proofs.Order.{few}
use Rattle.sets.specs.Mask.{has}
use Rattle.sets.proofs.Tests.{T→eq}
use Rattle.sets.proofs.Counting.{bit_le, count-le}
use Rattle.rounds.specs.Setting.{fix}
use Rattle.rounds.specs.Solve.{has_altitude, solve_problem}
use Rattle.rounds.specs.Later.{transmit}
use Rattle.rounds.proofs.Moments.{held_fits}
use Rattle.rounds.proofs.Found.{demand-met, no-other}
use Rattle.rounds.proofs.Shown.{fix-mask, fix-dof}
use Rattle.record.specs.declared.content.Fix.{Fix}
use Rattle.record.specs.Record.{stored}
use Rattle.reader.specs.Stands.{Stands}
use Rattle.reader.proofs.Clause.{Clause}
use Rattle.reader.proofs.Stood.{fix-stands}
use Rattle.entry.specs.declared.Reply.{Reply}
use Rattle.entry.specs.Reply.{record_of, replied, reply, Demanded, Promise}

module _ (I : Inputs) (passes : check_inputs I ≡ passed) where
  pub small : (problem_of I).n ≤ 32
  unfolding problem_of
  small = few I passes

  pub shown : (reply I).bytes ≡ record_of (problem_of I).n (problem_of I).shown (solve_problem (problem_of I))
  unfolding reply problem_of
  shown = ap (λ (c : Check). (replied c I).bytes) passes

  -- the numbers of a fix are such as their fields can hold, so that they stand there
  module _ (x : Fix) (e : solve_problem (problem_of I) ≡ fix x) where
    few-used : x.mask < 2 ^ 32
    few-used = lt_of_lt_of_le (fix-mask (problem_of I) small x e) (pow_mono small)

    free : x.dof < 2 ^ 32
    free = omega (arith, fix-dof (problem_of I) small x e, count-le (has x.mask) 32, bit_le (has_altitude (problem_of I).altitude))

    in-time : SFits w64 x.transmit_ps
    in-time =
        let p = (((demand-met (problem_of I) small).claim.fixed x).0 e).shown in
        subst (λ (y : Fix). SFits w64 y.transmit_ps) (sym p.shows)
        (held_fits (transmit (problem_of I).reference_ps (((demand-met (problem_of I) small).claim.fixed x).0 e).best) (T→eq _ p.in_i64))

    pub stands : Stands (record_of (problem_of I).n (problem_of I).shown (fix x)) (problem_of I).n (problem_of I).shown x
    stands = fix-stands (problem_of I).n (problem_of I).shown x (omega (arith, small)) free few-used in-time

  pub written : (r : Reply) (out after : List ℕ) → r ≡ reply I → length r.bytes ≡ 176 → after ≡ stored out r.bytes
      → Demanded (problem_of I) after
  written r out after e l s =
      let w : take 176 after ≡ record_of (problem_of I).n (problem_of I).shown (solve_problem (problem_of I)) =
      ap (take 176) s ∙ take_at r.bytes (drop 176 out) 176 l ∙ ap (λ (q : Reply). q.bytes) e ∙ shown in
      record {
        answer = solve_problem (problem_of I);
        demand = demand-met (problem_of I) small;
        written = w;
        shows = λ x q. subst (λ (t : List ℕ). Stands t (problem_of I).n (problem_of I).shown x)
            (sym (w ∙ ap (record_of (problem_of I).n (problem_of I).shown) q)) (stands x q);
        alone = no-other (problem_of I);
      }

-- ---- the promise, clause by clause
module _ (I : Inputs) (out : List ℕ) where
  -- under 176 bytes lent
  module _ (h : length out < 176) where
    short-answer : Clause (λ (p : Promise I out 14 out). p.answer)
    short-answer = rw (lt-ltb (length out) 176 h)

    short-output : Clause (λ (p : Promise I out 14 out). p.output)
    short-output = rw (lt-ltb (length out) 176 h)

    short-demand : Clause (λ (p : Promise I out 14 out). p.demand)
    short-demand p l = absurd (omega (arith, h, l))

    pub short-promise : Promise I out 14 out
    short-promise = record { answer = short-answer; output = short-output; demand = short-demand }

  -- 176 or more
  module _ (h : 176 ≤ length out) (r : Reply) (after : List ℕ) (e : r ≡ reply I) (l : length r.bytes ≡ 176)
      (s : after ≡ stored out r.bytes) where
    whole-answer : Clause (λ (p : Promise I out r.number after). p.answer)
    whole-answer = rw (le-ltb (length out) 176 h) (ap (λ (q : Reply). q.number) e)

    whole-output : Clause (λ (p : Promise I out r.number after). p.output)
    whole-output = rw (le-ltb (length out) 176 h) (s ∙ ap (λ (q : Reply). stored out q.bytes) e)

    whole-demand : Clause (λ (p : Promise I out r.number after). p.demand)
    whole-demand passes lent = written I passes r out after e l s

    pub whole-promise : Promise I out r.number after
    whole-promise = record { answer = whole-answer; output = whole-output; demand = whole-demand }
