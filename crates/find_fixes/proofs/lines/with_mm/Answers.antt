-- `find_fixes::lines::with_mm` meets its contract. The pieces, one after the other (`five`). Assumes nothing.
use Rattle.std.proofs.Common.{◌/◌, ◌%◌, arith}
use Rattle.text.specs.Text.{text_of, ascii, decimal}
use Rattle.find_fixes.specs.Lines.{thousandths}
use Rattle.text.proofs.Joined.{five}
use Rattle.find_fixes.proofs.lines.with_mm.Goals as goal

pub returns : goal.returns
unfolding thousandths
returns c =
    let n = c.args.n in (
      five (text_of c.args.text) _ _ _ _ _ (decimal (n / 1000)) (ascii ".")
          (decimal (n / 100 % 10)) (decimal (n / 10 % 10)) (decimal (n % 10)) c.with_number-whole.ensures.0
          c.with-point.ensures.0 c.with_number-tenth.ensures.0
          c.with_number-hundredth.ensures.0 c.with_number.ensures.0,
      c.with_number.ensures.1,
      omega arith,
    )
