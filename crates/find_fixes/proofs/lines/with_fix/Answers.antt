-- `find_fixes::lines::with_fix` meets its contract. The pieces, one after the other (`five`). Assumes nothing.
use Rattle.std.proofs.Common.{arith}
use Rattle.text.specs.Text.{text_of, ascii, decimal}
use Rattle.find_fixes.specs.Lines.{metres, fix_line}
use Rattle.text.proofs.Joined.{five}
use Rattle.find_fixes.proofs.lines.with_fix.Goals as goal

pub returns : goal.returns
unfolding fix_line
returns c = (
  five (text_of c.args.text) _ _ _ _ _ (ascii "place ")
      (decimal c.args.place) (ascii ", ")
      (metres c.args.distance) (ascii " m away\n")
      c.with-word.ensures.0 c.with_number-number.ensures.0
      c.with-comma.ensures.0
      c.with_metres-metres.ensures.0 c.with.ensures.0,
  c.with.ensures.1,
  omega arith,
)
