-- `words::put_u16` meets its contract: the bytes are copied one after another (`copied_2`). Assumes nothing.
use mathlib.Core.Path.{◌∙◌}
use Rattle.words.proofs.Bytes.{copied_2}
use Rattle.words.proofs.put_u16.Goals as goal

pub returns : goal.returns
returns c = copied_2 c.args.k c.args.x c.args.s.now _ c.requires (c.copy_from_slice.ensures.after ∙ c.to_le_bytes.ensures)
