-- `receptions::id_at` meets its contract: field by field. Assumes nothing.
use Rattle.receptions.specs.Receptions.{id_at}
use Rattle.receptions.proofs.id_at.Goals as goal

pub returns : goal.returns
unfolding id_at
returns c = rw (c.part_at-receiver.ensures, c.part_at-message.ensures, c.u32_at.ensures, c.u64_at.ensures)
