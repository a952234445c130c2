-- In `write_asterix::run` no more records are passed over than were gone through.
use Rattle.std.proofs.Common.{◌≤◌}
use Rattle.write_asterix.proofs.run.Given as goal

abbrev pub invariant-loop-records : goal.invariant-loop-records
invariant-loop-records g l = l.passed ≤ l.records
