-- The loop of `cases::replay`: the tally is that of the calls so far.
use Rattle.cases.proofs.Tallies.{SoFar}
use Rattle.cases.proofs.replay.Given as goal

abbrev pub invariant-loop-k : goal.invariant-loop-k
invariant-loop-k g l = goal.F-IsAlwaysCallable g l.next × SoFar (goal.F-step g) l.fn.next l.k l.next l.tally
