-- What `folder::rest_is_whole` carries to the next block is less than a reception.
use Rattle.std.proofs.Common.{◌<◌}
use Rattle.folder.proofs.rest_is_whole.Given as goal

abbrev pub invariant-loop : goal.invariant-loop
invariant-loop g l = l.over < 132
