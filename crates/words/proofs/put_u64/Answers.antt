-- `words::put_u64` meets its contract: the bytes are copied one after another (`copied_8`). Assumes nothing.
use mathlib.Core.Path.{◌∙◌}
use Rattle.words.proofs.Bytes.{copied_8}
use Rattle.words.proofs.put_u64.Goals as goal

pub returns : goal.returns
returns c = copied_8 c.args.k c.args.x c.args.s.now _ c.requires (c.copy_from_slice.ensures.after ∙ c.to_le_bytes.ensures)
