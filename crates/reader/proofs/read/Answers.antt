-- `reader::read` meets its contract. What is not refused meets the rules (`accepted`). Assumes nothing.
use Rattle.std.proofs.Common.{ap}
use Rattle.refusals.specs.Refusals.{answer_of}
use Rattle.reader.proofs.Reading.{accepted}
use Rattle.reader.proofs.read.Goals as goal

pub content_at-requires : goal.content_at-requires
content_at-requires c = accepted _ (ap answer_of (c.in_ok-check.ensures))
