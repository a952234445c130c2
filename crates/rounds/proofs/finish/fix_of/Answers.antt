-- `rounds::finish::fix_of` meets its contract: the fields one by one, with the position that it is given. Assumes nothing.
use Rattle.std.proofs.Common.{w64}
use mir.ValLaws.{to_z-of_z}
use Rattle.rounds.proofs.finish.fix_of.Goals as goal

pub returns : goal.returns
returns c = rw (c.requires, to_z-of_z w64 c.args.transmit_ps c.ranges.transmit_ps)
