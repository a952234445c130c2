use Rattle.std.proofs.Common.{sym, subst, of_calls, ◌∙◌, ◌<◌, arith}
use Rattle.cases.proofs.Tallies.{started, more, within, whole}
use Rattle.cases.proofs.replay.Goals as goal

pub loop-k-init : goal.loop-k-init
loop-k-init g c = (c.requires, started _ _ _ c.none-tally.ensures)

pub returns-in_default : goal.returns-in_default
returns-in_default g c = whole c.loop-k.invariant.1 (λ m. (c.next.new.self, c.in_default.ensures))

pub with-tally-requires : goal.with-tally-requires
with-tally-requires g c = record {
  compared_bound = subst (λ n. n < 1000000) (c.loop-k.invariant.1.number ∙ sym c.loop-k.invariant.1.compared) c.loop-k-test.true;
  differ_le_compared = within c.loop-k.invariant.1;
}

pub loop-k-preserved : goal.loop-k-preserved
loop-k-preserved g c = (
  search of_calls,
  more _ _ _ _ _ c.loop-k.invariant.1 c.in-Some.found _ _ (c.in-Some.ensures)
      c.with-tally.ensures.compared_value,
)

pub returns : goal.returns
returns g c = whole c.loop-k.invariant.1 (λ m. absurd (omega (arith, m, c.loop-k-test.false)))
